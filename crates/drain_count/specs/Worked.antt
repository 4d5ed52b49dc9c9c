-- Worked answers, by the length of the plain copy and the buffer's.
use Rattle.std.specs.Prelude.{ℕ, ◌≡◌, refl, Result, Ok, Err, List, [], ◌∷◌}
use Rattle.types.specs.Types.{refusal}
use Rattle.drains.specs.Drains.{rounded_up}
use Rattle.passing.specs.declared.Stop.{Stop}
use Rattle.passing.specs.declared.Stop.TheVariants.{Short, Broken}
use Rattle.drain_count.specs.declared.Drains.{Drains}
use Rattle.drain_count.specs.declared.Uncounted.{Uncounted}
use Rattle.drain_count.specs.declared.Uncounted.TheVariants.{Stopped, Refused}
use Rattle.drain_count.specs.DrainCount.{drains_in}

pub record Row : Type 0 where
  pub buffer : ℕ
  pub length : Result ℕ (Stop ℕ)
  pub drains : Result Drains Uncounted

abbrev row : ℕ → Result ℕ (Stop ℕ) → Result Drains Uncounted → Row
row b l r = record { buffer = b; length = l; drains = r }

abbrev count_of : ℕ → ℕ → Drains
count_of k n = record { count = k; len = n }

unfoldable pub said_all : List Row → List Row
said_all [] = []
said_all (r ∷ rs) = row r.buffer r.length (drains_in r.buffer r.length) ∷ said_all rs

-- the number next to the length; no drain for no bytes; as the length where the message isn't complete; 18 before all else
abbrev pub table : List Row
table =
    row 2 (Ok 3) (Ok (count_of 2 3))
    ∷ row 3 (Ok 3) (Ok (count_of 1 3))
    ∷ row 1 (Ok 0) (Ok (count_of 0 0))
    ∷ row 2 (Err Short) (Err (Stopped Short))
    ∷ row 2 (Err (Broken 3)) (Err (Stopped (Broken 3)))
    ∷ row 0 (Ok 3) (Err (Refused (refusal 18)))
    ∷ row 0 (Err Short) (Err (Refused (refusal 18)))
    ∷ row 0 (Err (Broken 3)) (Err (Refused (refusal 18)))
    ∷ []

pub worked : said_all table ≡ table
unfolding said_all drains_in rounded_up
worked = refl
