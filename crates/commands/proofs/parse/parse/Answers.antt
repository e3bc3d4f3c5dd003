use Rattle.std.proofs.Common.{◌≡◌, sym, ap, ◌∙◌, arith, ltb-false, ltb-true}
use Rattle.std.proofs.lemmas.Slice.{first_rest}
use Rattle.commands.specs.Parsing.{call_of}
use Rattle.commands.proofs.Reading.{call_read}
use Rattle.commands.proofs.parse.parse.Goals as goal

pub returns-in-len1-up : goal.returns-in-len1-up
returns-in-len1-up c =
    let line = c.args.line.now in
    let is : c.call_by.result ≡ call_of line = c.call_by.ensures ∙ ap call_of (sym (first_rest line 0 (omega (arith, ltb-true, ltb-false)))) in
    record { is = is; law = call_read line _ is }
