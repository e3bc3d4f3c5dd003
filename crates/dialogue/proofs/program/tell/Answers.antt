use Rattle.std.proofs.Common.{[], sym, ◌∙◌, subst}
use Rattle.std.proofs.KnownBytes.{Keeps-refl}
use Rattle.plain.specs.Plain.{problem_in, meaning_of}
use Rattle.session.specs.Law.{Led}
use Rattle.dialogue.proofs.Telling.{told_fault, told_accepted, if_ok_each}
use Rattle.dialogue.proofs.program.tell.Goals as goal

pub returns-in_ok-serve-in-Ok : goal.returns-in_ok-serve-in-Ok
returns-in_ok-serve-in-Ok g c =
    let led = subst (λ file. Led meaning_of (problem_in file) [] c.of.result) c.in-Ok.ensures.fills.0 (c.of.ensures.led _ _ c.open.ensures) in
    told_accepted meaning_of c.args.file.now c.in-Ok.counts _ _ _ _ _ _ c.of.result c.in_ok-serve-in-Ok.field-0 (sym c.check.ensures.is ∙ c.in-Ok.is) led c.in_ok-writeln-in-Ok.ensures.bytes c.flush.ensures.bytes
    c.in_ok-serve-in-Ok.ensures

pub returns-in_ok-writeln-in-Err : goal.returns-in_ok-writeln-in-Err
returns-in_ok-writeln-in-Err g c =
    if_ok_each c.flush-in-Err.result _
    (λ x. told_fault c.args.file.now c.in-Err.fault _ _ _ _ _ (sym c.check.ensures.is ∙ c.in-Err.is) (Keeps-refl (g.R.Read.remaining c.args.input.now)) c.in_ok-writeln-in-Err.ensures.bytes c.flush-in-Err.ensures.bytes)
