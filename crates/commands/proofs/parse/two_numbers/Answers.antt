use Rattle.std.proofs.Common.{◌≡◌, take, drop, Some, sym, ◌∙◌}
use Rattle.std.specs.Option.{option_zip}
use Rattle.commands.specs.Parsing.{second_at, one_in}
use Rattle.commands.proofs.Reading.{first_part, second_part}
use Rattle.commands.proofs.parse.two_numbers.Goals as goal

pub returns : goal.returns
returns c =
    let bs = c.args.fields.now in
    let slot : Some c.in_ok-slot.slot ≡ one_in (take (second_at bs) bs) = sym c.in_ok-slot.was ∙ c.one_number.ensures ∙ first_part bs _ c.place_of-second.ensures.is in
    let option : Some c.in_ok-option.option ≡ one_in (drop (second_at bs) bs) = sym c.in_ok-option.was ∙ c.one_number-2.ensures ∙ second_part bs _ c.place_of-second.ensures.is in
    λ i. option_zip (slot i) (option i)
