use Rattle.std.proofs.Common.{◌≡◌, eqb, length, unwrap_or, ap, ◌∙◌, rules, tests}
use Rattle.std.specs.List.{position}
use Rattle.std.proofs.lemmas.Iterator.{YieldsList-from_slice}
use Rattle.std.proofs.lemmas.Iterator.Search.{position_from_yields_List}
use Rattle.commands.proofs.Splitting.{ahead_position}
use Rattle.commands.proofs.find.place_of.Goals as goal

pub returns-clause-is : goal.returns-clause-is
returns-clause-is c =
    let found : c.position.result ≡ position (λ x. eqb x c.args.byte) c.args.bytes.now = position_from_yields_List (λ x. eqb x c.args.byte) _ _ c.position.result c.position.ensures.ran (YieldsList-from_slice c.args.bytes.now cc) (λ x b q k. search (rules, tests)) in
    c.unwrap_or.ensures ∙ ap (λ o. unwrap_or o (length c.args.bytes.now)) found ∙ ahead_position c.args.byte c.args.bytes.now
