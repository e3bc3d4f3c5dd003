-- What a binder means, and what its calls do to that. Assumes nothing.
use Rattle.std.specs.Prelude.{◌≡◌, ℕ, ◌+◌, ◌<◌, ◌≤◌, Bool, cond, T, List, length, Ok, Err, Result, ◌==◌, ◌≢◌, nat_lt, slice_index, slice_index_or}
use Rattle.boxes.specs.Boxes.{Open, Fits, Within}

-- The sheets, numbered from 0. A sheet keeps some lists, each with one option for each slot of its scope.
pub record Binding : Type 0 where
  pub count : ℕ
  pub scope : ℕ → List ℕ
  pub kept : ℕ → List ℕ → Bool  -- the lists that a sheet keeps now
  pub marks : ℕ  -- how many marks stand, the oldest is number 0
  pub marked : ℕ → ℕ → List ℕ → Bool  -- at a mark, the lists that a sheet kept

-- a list gives each position of the scope one option, from 0 to 31
pub record Listed (scope l : List ℕ) : Type 0 where
  pub long : length l ≡ length scope
  pub low : (p : ℕ) → p < length scope → slice_index l p < 32

-- at most 1,024 sheets and 72 marks; each scope has 1 to 8 different slots, of any number
pub record Proper (m : Binding) : Type 0 where
  pub few : m.count ≤ 1024
  pub low : m.marks ≤ 72
  pub some : (s : ℕ) → s < m.count → 1 ≤ length (m.scope s)
  pub short : (s : ℕ) → s < m.count → length (m.scope s) ≤ 8
  pub apart : (s p q : ℕ) → s < m.count → p < q → q < length (m.scope s) → slice_index (m.scope s) p ≢ slice_index (m.scope s) q
  pub listed : (s : ℕ) (l : List ℕ) → T (m.kept s l) → Listed (m.scope s) l
  pub listed_then : (i s : ℕ) (l : List ℕ) → T (m.marked i s l) → Listed (m.scope s) l

-- The questions: the answer, or the number of the refusal.
abbrev pub arity_of : Binding → ℕ → Result ℕ ℕ
arity_of m s = cond (nat_lt s m.count) (Ok (length (m.scope s))) (Err 31)

abbrev pub slot_at : Binding → ℕ → ℕ → Result ℕ ℕ
slot_at m s p = cond (nat_lt s m.count) (cond (nat_lt p (length (m.scope s))) (Ok (slice_index (m.scope s) p)) (Err 31)) (Err 31)

-- both have the same lists
abbrev pub SameLists : (List ℕ → Bool) → (List ℕ → Bool) → Type 0
SameLists f g = (l : List ℕ) → f l ≡ g l

-- n has the sheets and scopes of m
pub record SameSheets (m n : Binding) : Type 0 where
  pub count : n.count ≡ m.count
  pub scope : (s : ℕ) → n.scope s ≡ m.scope s

-- some list that sheet s keeps fits b, and has option o at position p
pub record Held (m : Binding) (b : List ℕ) (s p o : ℕ) : Type 0 where
  pub list : List ℕ
  pub keeps : T (m.kept s list)
  pub fits : Fits b (m.scope s) list
  pub holds : slice_index_or list p 0 ≡ o

-- Sheet s was shown b, and left it as c. Whether a list that does not fit b stays kept is left free.
pub record Shown (m n : Binding) (s : ℕ) (b c : List ℕ) : Type 0 where
  pub supported : (p o : ℕ) → p < length (m.scope s) → Open c (slice_index (m.scope s) p) o → Held m b s p o
  pub spared : (p o : ℕ) → p < length (m.scope s) → Held m b s p o → Open c (slice_index (m.scope s) p) o
  pub elsewhere : (t : ℕ) → ((p : ℕ) → p < length (m.scope s) → slice_index (m.scope s) p ≢ t) → slice_index c t ≡ slice_index b t
  pub only_closes : Within c b
  pub still : (l : List ℕ) → T (m.kept s l) → Fits b (m.scope s) l → T (n.kept s l)
  pub none_added : (l : List ℕ) → T (n.kept s l) → T (m.kept s l)
  pub others : (t : ℕ) → (t ≢ s) → SameLists (n.kept t) (m.kept t)
  pub sheets : SameSheets m n
  pub marks : n.marks ≡ m.marks
  pub marked : (i t : ℕ) → SameLists (n.marked i t) (m.marked i t)

-- one mark more, at which each sheet kept what it keeps
pub record Noted (m n : Binding) : Type 0 where
  pub sheets : SameSheets m n
  pub kept : (s : ℕ) → SameLists (n.kept s) (m.kept s)
  pub marks : n.marks ≡ m.marks + 1
  pub older : (i s : ℕ) → i < m.marks → SameLists (n.marked i s) (m.marked i s)
  pub newest : (s : ℕ) → SameLists (n.marked m.marks s) (m.kept s)

-- the newest mark dropped, and each sheet keeps what it kept then
pub record Undone (m n : Binding) : Type 0 where
  pub sheets : SameSheets m n
  pub kept : (s : ℕ) → SameLists (n.kept s) (m.marked n.marks s)
  pub marks : m.marks ≡ n.marks + 1
  pub older : (i s : ℕ) → i < n.marks → SameLists (n.marked i s) (m.marked i s)

-- what sheet s kept at the oldest mark that stands, or keeps where none stands
abbrev pub kept_first : Binding → ℕ → List ℕ → Bool
kept_first m s l = cond (m.marks == 0) (m.kept s l) (m.marked 0 s l)

-- all marks undone: each sheet keeps what it kept at the oldest
pub record Cleared (m n : Binding) : Type 0 where
  pub sheets : SameSheets m n
  pub marks : n.marks ≡ 0
  pub kept : (s : ℕ) → SameLists (n.kept s) (kept_first m s)
