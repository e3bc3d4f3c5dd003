-- What the verdict on a file means. Assumes nothing.
use Rattle.std.proofs.Common.{◌≡◌, ℕ, ◌≤◌, true, List, length, IfOk, Ok, Err, Result, sym, refl, subst, arith}
use Rattle.std.proofs.lemmas.Bool.Decides.{nat_tests}
use Rattle.catalogue.specs.declared.checked.TheConstants.{LONGEST}
use Rattle.catalogue.specs.declared.counts.Counts.{Counts}
use Rattle.catalogue.specs.declared.fault.Fault.{Fault}
use Rattle.catalogue.specs.Content.{Content, Sound}
use Rattle.catalogue.specs.Writing.{written}
use Rattle.catalogue.specs.Verdict.{onward, content, counts_of, verdict, gives, accepts}
use Rattle.catalogue.specs.Law.{Octets, Accepted, Refused, Means}
use Rattle.catalogue.proofs.Complete.{complete}
use Rattle.catalogue.proofs.Run.{first_fault}
use Rattle.catalogue.proofs.Sound.{sound}
use Rattle.catalogue.proofs.Longest.{short}

-- a sound list that is written as these bytes is what they say
says : (bs : List ℕ) (w : Content) → Sound w → written w ≡ bs → content bs ≡ Ok w
says bs w s e = subst (λ x. content x ≡ Ok w) e (complete w s)

accepted : (bs : List ℕ) → Octets bs → (w : Content) → content bs ≡ Ok w → Accepted bs (counts_of w)
accepted bs o w e =
    let s = sound bs o w e in
    record { list = w; is = e; sound = s.0; writes = s.1; counts = refl; short = subst (λ x. length x ≤ LONGEST) s.1 (short w s.0); only = λ v t f. let g = says bs v t f in cc }

refused : (bs : List ℕ) (f : Fault) → content bs ≡ Err f → Refused bs f
refused bs f e =
    record { unsound = λ w s g. let h = says bs w s g in let z : ◌≡◌ {A = ℕ} 0 1 = cc in absurd (omega arith); first = first_fault bs f e }

-- the verdict means what it says
pub means : (bs : List ℕ) → Octets bs → (r : Result Counts Fault) → r ≡ verdict bs → Means bs r
means bs o r e = by (content bs) refl r e
  where
    by : (q : Result Content Fault) → content bs ≡ q → (r : Result Counts Fault) → r ≡ onward q (λ w. Ok (counts_of w)) → Means bs r
    by (Ok w) k r h = subst (Means bs) (sym h) (accepted bs o w k)
    by (Err f) k r h = subst (Means bs) (sym h) (refused bs f k)

gives_own : (c : Counts) → gives (Ok c) c ≡ true
gives_own c = grind (arith, nat_tests)

accepts_from : (bs : List ℕ) (c : Counts) → Ok c ≡ verdict bs → accepts bs c ≡ true
accepts_from bs c e = subst (λ r. gives r c ≡ true) e (gives_own c)

-- an accepted file is accepted with the counts that are told
pub made_accepted : (bs : List ℕ) (r : Result Counts Fault) → r ≡ verdict bs → IfOk r (λ c. accepts bs c ≡ true)
made_accepted bs (Ok c) e = accepts_from bs c e
made_accepted bs (Err f) e = tt
