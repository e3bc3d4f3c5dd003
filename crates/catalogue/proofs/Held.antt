-- What a checked catalogue holds: its bytes are the writing of a sound list, and its counts are that list's.
use Rattle.std.proofs.Common.{◌≡◌, ℕ, true, List, Ok, Err, Result, refl, ap, arith}
use Rattle.std.proofs.lemmas.Bool.{false≢true}
use Rattle.std.proofs.lemmas.Bool.Decides.{nat_tests}
use Rattle.catalogue.specs.declared.counts.Counts.{Counts}
use Rattle.catalogue.specs.declared.fault.Fault.{Fault}
use Rattle.catalogue.specs.Content.{Content, Sound}
use Rattle.catalogue.specs.Writing.{written}
use Rattle.catalogue.specs.Verdict.{onward, content, counts_of, verdict, gives, accepts}
use Rattle.catalogue.specs.Law.{Octets}
use Rattle.catalogue.proofs.Sound.{sound}

pub record Held (bs : List ℕ) (c : Counts) : Type 0 where
  pub list : Content
  pub is : content bs ≡ Ok list
  pub sound : Sound list
  pub writes : written list ≡ bs
  pub counts : counts_of list ≡ c

given : (d c : Counts) → gives (Ok d) c ≡ true → d ≡ c
given d c e = grind (arith, nat_tests)

-- the verdict on accepted bytes gives their counts
pub verdict_is : (bs : List ℕ) (c : Counts) → accepts bs c ≡ true → verdict bs ≡ Ok c
verdict_is bs c a = by (verdict bs) a
  where
    by : (r : Result Counts Fault) → gives r c ≡ true → r ≡ Ok c
    by (Ok d) h = ap Ok (given d c h)
    by (Err f) h = absurd (false≢true h)

pub held : (bs : List ℕ) (c : Counts) → accepts bs c ≡ true → Octets bs → Held bs c
held bs c a o = by (content bs) refl a
  where
    by : (r : Result Content Fault) → content bs ≡ r → gives (onward r (λ w. Ok (counts_of w))) c ≡ true → Held bs c
    by (Ok w) e h = let s = sound bs o w e in record { list = w; is = e; sound = s.0; writes = s.1; counts = given (counts_of w) c h }
    by (Err f) e h = absurd (false≢true h)
