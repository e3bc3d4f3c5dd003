-- A plan read off a box slot by slot. Assumes nothing.
use Rattle.std.proofs.Common.{ℕ, List, Option, refl, unwrap_or}
use Rattle.std.specs.Prelude.{None, Some as Given}
use Rattle.boxes.specs.Boxes.{Lowest}
use Rattle.explore.specs.Laid.{Entry}

pub entry_of : (c : List ℕ) (s : ℕ) (r : Option ℕ) → Lowest c s r → Entry c s (unwrap_or r 32)
entry_of c s None h = record { lowest = λ w. absurd (h w); none = λ _. refl }
entry_of c s (Given o) h = record { lowest = λ _. h; none = λ shut. absurd (shut (record { option = o; is = h.is })) }
