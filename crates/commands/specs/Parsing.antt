-- How a line is read as a call. Assumes nothing.
use Rattle.std.specs.Prelude.{ℕ, suc, ◌+◌, ◌-◌, ◌*◌, cond, ◌&&◌, List, [], ◌∷◌, take, drop, Some, None, Option, ◌==◌}
use Rattle.std.specs.Option.{option_map, option_zip}
use Rattle.std.specs.Char.{is_ascii_digit}
use Rattle.subject.specs.declared.call.Call.{Call}
use Rattle.subject.specs.declared.call.Call.TheVariants.{Try, Strike, Back, Look, Begin, Next, End}
use Rattle.commands.specs.Places.{ahead}

-- the number that three digits write
abbrev pub three_digits : ℕ → ℕ → ℕ → Option ℕ
three_digits a b c = cond (is_ascii_digit a && (is_ascii_digit b && is_ascii_digit c)) (Some (100 * (a - 48) + (10 * (b - 48) + (c - 48)))) None

-- one to three digits: where there are fewer, noughts stand before them
abbrev pub number_in : List ℕ → Option ℕ
number_in [] = None
number_in (a ∷ []) = three_digits 48 48 a
number_in (a ∷ b ∷ []) = three_digits 48 a b
number_in (a ∷ b ∷ c ∷ []) = three_digits a b c
number_in (a ∷ b ∷ c ∷ d ∷ ds) = None

-- a space and a number
abbrev pub one_in : List ℕ → Option ℕ
one_in [] = None
one_in (b ∷ ds) = cond (b == 32) (number_in ds) None

-- where the second of two numbers begins: at the next space
abbrev pub second_at : List ℕ → ℕ
second_at bs = suc (ahead 32 (drop 1 bs))

-- a space and a number, twice
abbrev pub two_in : List ℕ → Option (ℕ × ℕ)
two_in bs = option_zip (one_in (take (second_at bs) bs)) (one_in (drop (second_at bs) bs))

-- a call with no number, where nothing stands behind its letter
abbrev pub alone_in : Call → List ℕ → Option Call
alone_in call [] = Some call
alone_in call (b ∷ bs) = None

-- the call of a letter, with the numbers behind it: 116 is t, 115 s, 98 b, 108 l, 119 w, 110 n and 101 e
abbrev pub call_by : ℕ → List ℕ → Option Call
call_by letter bs =
    cond (letter == 116) (option_map (λ p. Try p.0 p.1) (two_in bs))
    (cond (letter == 115) (option_map (λ p. Strike p.0 p.1) (two_in bs))
    (cond (letter == 98) (alone_in Back bs)
    (cond (letter == 108) (option_map Look (one_in bs))
    (cond (letter == 119) (alone_in Begin bs)
    (cond (letter == 110) (alone_in Next bs)
    (cond (letter == 101) (alone_in End bs) None))))))

abbrev pub call_of : List ℕ → Option Call
call_of [] = None
call_of (letter ∷ bs) = call_by letter bs
