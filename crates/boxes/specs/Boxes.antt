-- What a box says: of each of 48 slots, which of 32 options are open. Assumes nothing.
use Rattle.std.specs.Prelude.{◌≡◌, ℕ, ◌/◌, ◌%◌, ◌^◌, ◌<◌, ◌≤◌, ◌&&◌, List, length, ◌==◌, ◌≢◌, Option, MatchOption, nat_lt, slice_index}
use Rattle.subject.specs.Boxes.{Box}

-- option o of slot s is open: bit o of its cell is one
unfoldable pub Open : List ℕ → ℕ → ℕ → Type 0
Open b s o = (o < 32) × ((slice_index b s / 2 ^ o) % 2 ≡ 1)

-- the box that the cells stand for: the same as a test
unfoldable pub opens : List ℕ → Box
opens b s o = nat_lt o 32 && (slice_index b s / 2 ^ o) % 2 == 1

-- Each option of the list is open, at the slot of its position. Such a list fits the box.
pub record Fits (b scope l : List ℕ) : Type 0 where
  pub long : length l ≡ length scope
  pub each : (p : ℕ) → p < length scope → Open b (slice_index scope p) (slice_index l p)

-- c opens nothing that b does not
abbrev pub Within : List ℕ → List ℕ → Type 0
Within c b = (s o : ℕ) → Open c s o → Open b s o

-- c is b with option o of slot s closed, and nothing else changed
pub record Closed (b c : List ℕ) (s o : ℕ) : Type 0 where
  pub here : Open c s o → ⊥
  pub less : Within c b
  pub more : (t u : ℕ) → ((t ≡ s) × (u ≡ o) → ⊥) → Open b t u → Open c t u
  pub rest : (t : ℕ) → (t ≢ s) → slice_index c t ≡ slice_index b t

-- c is b with option o of slot s open, if there is such an option, and nothing else changed
pub record Opened (b c : List ℕ) (s o : ℕ) : Type 0 where
  pub here : s < 48 → o < 32 → Open c s o
  pub less : (t u : ℕ) → ((t ≡ s) × (u ≡ o) → ⊥) → Open c t u → Open b t u
  pub more : Within b c
  pub rest : (t : ℕ) → (t ≢ s) → slice_index c t ≡ slice_index b t

-- bit o of a number is one
unfoldable pub Bit : ℕ → ℕ → Type 0
Bit n o = (n / 2 ^ o) % 2 ≡ 1

-- the one bit of a mask is that of option o, if a box covers it
pub record Single (mask o : ℕ) : Type 0 where
  pub only : (u : ℕ) → Bit mask u → (u ≡ o) × (u < 32)
  pub here : o < 32 → Bit mask o

-- the bits of a mask are those of the options below n, as far as a box covers them
pub record Below (mask n : ℕ) : Type 0 where
  pub only : (o : ℕ) → Bit mask o → (o < n) × (o < 32)
  pub all : (o : ℕ) → o < n → o < 32 → Bit mask o

-- c is b with just the options of slot s left that have their bit in a mask
pub record Restricted (b c : List ℕ) (s mask : ℕ) : Type 0 where
  pub less : Within c b
  pub masked : (o : ℕ) → Open c s o → Bit mask o
  pub more : (o : ℕ) → Open b s o → Bit mask o → Open c s o
  pub rest : (t : ℕ) → (t ≢ s) → slice_index c t ≡ slice_index b t

-- c is b with every option of slot s but o closed, and nothing else changed
pub record Fixed (b c : List ℕ) (s o : ℕ) : Type 0 where
  pub less : Within c b
  pub alone : (u : ℕ) → Open c s u → u ≡ o
  pub here : Open b s o → Open c s o
  pub rest : (t : ℕ) → (t ≢ s) → slice_index c t ≡ slice_index b t

-- c opens of each slot as many of its first options as a list says, as far as a box covers them
pub record Filled (sizes c : List ℕ) : Type 0 where
  pub real : (s o : ℕ) → Open c s o → o < slice_index sizes s
  pub all : (s o : ℕ) → s < 48 → o < 32 → o < slice_index sizes s → Open c s o

-- some option of slot s is open
pub record Some (b : List ℕ) (s : ℕ) : Type 0 where
  pub option : ℕ
  pub is : Open b s option

-- o is the lowest open option of slot s
pub record Least (b : List ℕ) (s o : ℕ) : Type 0 where
  pub is : Open b s o
  pub least : (u : ℕ) → Open b s u → o ≤ u

-- the answer is the lowest open option of slot s, or none where none is open
abbrev pub Lowest : List ℕ → ℕ → Option ℕ → Type 0
Lowest b s r = MatchOption r (Some b s → ⊥) (Least b s)

-- two different options of slot s are open
pub record Two (b : List ℕ) (s : ℕ) : Type 0 where
  pub one : ℕ
  pub other : ℕ
  pub apart : one < other
  pub first : Open b s one
  pub second : Open b s other

-- s is the lowest slot with two or more open options
pub record Branching (b : List ℕ) (s : ℕ) : Type 0 where
  pub small : s < 48
  pub two : Two b s
  pub fixed : (t : ℕ) → t < s → Two b t → ⊥

-- the answer is the lowest slot with two or more open options, or none where there is none
abbrev pub Loose : List ℕ → Option ℕ → Type 0
Loose b r = MatchOption r ((t : ℕ) → Two b t → ⊥) (Branching b)

-- some option is open in one of two boxes and not in the other
pub record Differ (b c : List ℕ) : Type 0 where
  pub slot : ℕ
  pub option : ℕ
  pub there : (slot < 48) × (option < 32)
  pub apart : opens b slot option ≡ opens c slot option → ⊥
