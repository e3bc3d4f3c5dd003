-- A reckoner of small problems: what is open, by tests that compute. It runs through all lists of options, so it is
-- plain and slow. Assumes nothing.
use Rattle.std.proofs.Common.{ℕ, zero, suc, ◌+◌, ◌/◌, ◌%◌, ◌^◌, Bool, true, false, cond, not, ◌&&◌, ◌||◌, eqb, ltb, List, [], ◌∷◌, map, length, get_or}
use Rattle.catalogue.specs.Checks.{all, has}
use Rattle.subject.specs.Problem.{Problem}
use Rattle.subject.specs.Boxes.{Box}
use Rattle.subject.specs.Decisions.{Decision, tried, struck}
use Rattle.examples.proofs.Tests.{below}

-- of each slot, its open options
abbrev pub Table : Type 0
Table = List (List ℕ)

abbrev pub opens : Table → Box
opens B s o = has o (get_or B s [])

-- those of the n options from a on that pass
abbrev pub passing : (ℕ → Bool) → ℕ → ℕ → List ℕ
passing f a zero = []
passing f a (suc n) = cond (f a) (a ∷ passing f (suc a) n) (passing f (suc a) n)

-- the options that there are, as far as a box opens them, from slot a on
abbrev pub listed : Box → ℕ → List ℕ → Table
listed X a [] = []
listed X a (n ∷ ns) = passing (X a) 0 n ∷ listed X (suc a) ns

-- some option of the list passes
abbrev pub any_of : (ℕ → Bool) → List ℕ → Bool
any_of f [] = false
any_of f (o ∷ os) = f o || any_of f os

-- some list passes that has an option from each of these
abbrev pub any_list : (List ℕ → Bool) → Table → Bool
any_list f [] = f []
any_list f (os ∷ rest) = any_of (λ o. any_list (λ l. f (o ∷ l)) rest) os

-- sheet k supports option o at position i
abbrev pub supports : Problem → Table → ℕ → ℕ → ℕ → Bool
supports P B k i o = any_list (λ l. P.admits k l && eqb (get_or l i 0) o) (map (λ s. get_or B s []) (P.scope k))

-- the same, unless position i names another slot than s
abbrev pub supports_at : Problem → Table → ℕ → ℕ → ℕ → ℕ → Bool
supports_at P B s o k i = let r : Bool = supports P B k i o in cond (eqb (get_or (P.scope k) i 0) s) r true

-- every sheet that names slot s supports its option o
unfoldable pub held : Problem → Table → Box
held P B s o = below P.sheets (λ k. below (length (P.scope k)) (supports_at P B s o k))

-- one round closes what has no support
unfoldable pub round : Problem → Table → Table
round P B = listed (λ s o. opens B s o && held P B s o) 0 P.sizes

abbrev pub rounds : ℕ → Problem → Table → Table
rounds zero P B = B
rounds (suc n) P B = rounds n P (round P B)

-- no decision forbids the option
abbrev pub forbids : Decision → ℕ → ℕ → Bool
forbids (tried a b) s o = eqb s a && not (eqb o b)
forbids (struck a b) s o = eqb s a && eqb o b

abbrev pub allows : List Decision → Box
allows [] s o = true
allows (d ∷ D) s o = not (forbids d s o) && allows D s o

-- as many rounds as there are options
abbrev pub total : List ℕ → ℕ
total [] = 0
total (n ∷ ns) = n + total ns

unfoldable pub closed : Problem → List Decision → Table
closed P D = rounds (total P.sizes) P (listed (allows D) 0 P.sizes)

-- every slot has an open option
abbrev pub some : List ℕ → Bool
some [] = false
some (o ∷ os) = true

unfoldable pub alive : Problem → Table → Bool
alive P B = below (length P.sizes) (λ s. some (get_or B s []))

-- every slot that a sheet names is there
unfoldable pub placed : Problem → Bool
placed P = below P.sheets (λ k. below (length (P.scope k)) (λ i. ltb (get_or (P.scope k) i 0) (length P.sizes)))

-- all that is left is supported
unfoldable pub stable : Problem → Table → Bool
stable P B = below (length P.sizes) (λ s. all (held P B s) (get_or B s []))

-- what is open in the end: nothing, where a slot has nothing left
abbrev pub upheld : Problem → Table → Table
upheld P B = cond (alive P B) B []

unfoldable pub settled : Problem → List Decision → Table
settled P D = upheld P (closed P D)

-- the rounds came to an end
abbrev pub ended : Problem → Table → Bool
ended P B = cond (alive P B) (placed P && stable P B) true

unfoldable pub finished : Problem → List Decision → Bool
finished P D = ended P (closed P D)

-- the options open are those whose bits are ones in m
abbrev pub bit : ℕ → ℕ → Bool
bit m o = eqb ((m / 2 ^ o) % 2) 1

unfoldable pub shows : List ℕ → ℕ → Bool
shows os m = ltb m (2 ^ 32) && (all (bit m) os && below 32 (λ o. cond (bit m o) (has o os) true))

unfoldable pub looks : Problem → Table → List ℕ → Bool
looks P B shown = eqb (length shown) (length P.sizes) && below (length P.sizes) (λ s. shows (get_or B s []) (get_or shown s 0))
