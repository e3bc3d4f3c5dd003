-- A session with the sample: calls and their answers, from the first to the last. Assumes nothing.
use Rattle.std.specs.Prelude.{List, [], ◌∷◌}
use Rattle.subject.specs.Logs.{Call, try, strike, back, begin, end, look, next, Answer, count, bits, refused, plan, none, done, Entry}

infix 40 ◌gets◌
abbrev pub ◌gets◌ : Call → Answer → Entry
c gets a = record { call = c; answer = a }

abbrev pub session : List Entry
session =
    (look 0 gets bits 3) ∷ (look 1 gets bits 7) ∷ (look 2 gets bits 7) ∷
    -- a try, and back again
    (try 0 0 gets count 3) ∷ (look 0 gets bits 1) ∷ (look 1 gets bits 1) ∷ (look 2 gets bits 1) ∷
    (back gets count 8) ∷ (look 0 gets bits 3) ∷ (look 1 gets bits 7) ∷ (look 2 gets bits 7) ∷
    -- all plans
    (begin gets done) ∷
    (next 3 gets plan (0 ∷ 0 ∷ 0 ∷ [])) ∷ (next 3 gets plan (1 ∷ 1 ∷ 1 ∷ [])) ∷ (next 3 gets plan (1 ∷ 2 ∷ 2 ∷ [])) ∷
    (next 3 gets none) ∷ (end gets done) ∷
    -- a strike, and the plans that it leaves
    (strike 1 1 gets count 6) ∷ (look 0 gets bits 3) ∷ (look 1 gets bits 5) ∷ (look 2 gets bits 5) ∷
    (begin gets done) ∷
    (next 3 gets plan (0 ∷ 0 ∷ 0 ∷ [])) ∷ (next 3 gets plan (1 ∷ 2 ∷ 2 ∷ [])) ∷
    (next 3 gets none) ∷ (end gets done) ∷
    -- calls that are refused
    (try 3 0 gets refused 21) ∷ (try 0 2 gets refused 22) ∷ (try 1 1 gets refused 23) ∷ (back gets refused 25) ∷
    (look 3 gets refused 21) ∷ (begin gets done) ∷ (next 2 gets refused 26) ∷ (end gets done) ∷
    -- nothing is left open, until the try is taken back with all behind it
    (try 0 0 gets count 3) ∷ (strike 0 0 gets count 0) ∷ (try 0 0 gets refused 23) ∷ (look 0 gets bits 0) ∷
    (begin gets done) ∷ (next 3 gets none) ∷ (end gets done) ∷
    (back gets count 6) ∷ []
