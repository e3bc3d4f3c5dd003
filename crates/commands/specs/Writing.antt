-- When a line is the writing of a call. Assumes nothing.
use Rattle.std.specs.Prelude.{◌≡◌, ℕ, ◌+◌, ◌-◌, ◌*◌, ◌≤◌, List, [], ◌∷◌, ◌++◌, length, Some, None, codes, Option}
use Rattle.std.specs.List.{AllByRecursion}
use Rattle.std.specs.Int.{IsInRange}
use Rattle.subject.specs.declared.call.Call.{Call}
use Rattle.subject.specs.declared.call.Call.TheVariants.{Try, Strike, Back, Look, Begin, Next, End}

-- the number that decimal digits write, behind those of n
abbrev pub amount : ℕ → List ℕ → ℕ
amount n [] = n
amount n (d ∷ ds) = amount (10 * n + (d - 48)) ds

-- one space and one to three decimal digits that write n
pub record Field (n : ℕ) (bs : List ℕ) : Type 0 where
  pub digits : List ℕ
  pub spaced : bs ≡ 32 ∷ digits
  pub some : 1 ≤ length digits
  pub few : length digits ≤ 3
  pub each : AllByRecursion (IsInRange 48 57) digits
  pub value : amount 0 digits ≡ n

-- the letter of a call, and then its numbers
abbrev pub Writes : Call → List ℕ → Type 0
Writes (Try slot option) line = (first : List ℕ) × (second : List ℕ) × (line ≡ codes "t" ++ (first ++ second)) × Field slot first × Field option second
Writes (Strike slot option) line = (first : List ℕ) × (second : List ℕ) × (line ≡ codes "s" ++ (first ++ second)) × Field slot first × Field option second
Writes Back line = line ≡ codes "b"
Writes (Look slot) line = (first : List ℕ) × (line ≡ codes "l" ++ first) × Field slot first
Writes Begin line = line ≡ codes "w"
Writes Next line = line ≡ codes "n"
Writes End line = line ≡ codes "e"

-- a line is read as just the call that it writes, and as none exactly where it writes none
pub record Reads (line : List ℕ) (r : Option Call) : Type 0 where
  pub sound : (call : Call) → r ≡ Some call → Writes call line
  pub complete : (call : Call) → Writes call line → r ≡ Some call
  pub refused : r ≡ None → (call : Call) → Writes call line → ⊥
  pub unwritten : ((call : Call) → Writes call line → ⊥) → r ≡ None
