use Rattle.std.proofs.Common.{rules}
use Rattle.std.proofs.lemmas.Result.{err_from_is_err_and}
use Rattle.session.proofs.outside.outside.Goals as goal

pub returns-in_err-try_option-in-Some-Try : goal.returns-in_err-try_option-in-Some-Try
returns-in_err-try_option-in-Some-Try g c = let p = err_from_is_err_and c.from_residual.result c.from_residual.ensures.1 in rw (p.1, p.2) (search rules)

pub returns-in_err-strike-in-Some-Strike : goal.returns-in_err-strike-in-Some-Strike
returns-in_err-strike-in-Some-Strike g c = let p = err_from_is_err_and c.from_residual-in_err-strike-in-Some-Strike.result c.from_residual-in_err-strike-in-Some-Strike.ensures.1 in rw (p.1, p.2) (search rules)

pub returns-in_err-back-in-Some-Back : goal.returns-in_err-back-in-Some-Back
returns-in_err-back-in-Some-Back g c = let p = err_from_is_err_and c.from_residual-in_err-back-in-Some-Back.result c.from_residual-in_err-back-in-Some-Back.ensures.1 in rw (p.1, p.2) (search rules)

pub returns-in_err-look-in-Some-Look : goal.returns-in_err-look-in-Some-Look
returns-in_err-look-in-Some-Look g c = let p = err_from_is_err_and c.from_residual-in_err-look-in-Some-Look.result c.from_residual-in_err-look-in-Some-Look.ensures.1 in rw (p.1, p.2) (search rules)
