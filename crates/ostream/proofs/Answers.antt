-- For those who run a writer: what a writing call says, and what it leaves, by whether it is refused, whether its place lies within its
-- output, and whether there is room for the rest.
use mathlib.Core.Path.{◌≡◌, refl, sym, ap, ◌∙◌}
use mathlib.Core.Bool.{true, false}
use mathlib.Core.List.{List}
use Prim.Native.Nat.{ℕ, ◌+◌, ◌-◌, ◌≤◌, ◌<◌}
use lib.Dec.{leb, ltb}
use lib.ListN.{length, drop}
use borrow.Author.Tests.{lt-ltb, le-ltb, le-leb, lt-leb}
use Rattle.types.specs.declared.Error.{Error}
use Rattle.types.specs.Types.{number_of, refusal}
use Rattle.types.proofs.Numbers.{refusal-number}
use Rattle.putting.specs.Put.{put}
use Rattle.ostream.specs.declared.OStream.{OStream}
use Rattle.ostream.specs.declared.Answer.{Answer}
use Rattle.ostream.specs.declared.Answer.TheVariants.{Done, Full}
use Rattle.std.specs.Prelude.{Result, Ok, Err}
use Rattle.ostream.specs.Stream.{at}
use Rattle.ostream.specs.Emission.{Judgement, accepted, refused_with, judged, Call, Said, through, full, number, said_of, untouched, emitted, written_by, written}

-- Each answer of the code's has its own words: what is said fixes the answer.
abbrev answer_of : Said → Result Answer Error
answer_of through = Ok Done
answer_of (full n) = Ok (Full n)
answer_of (number n) = Err (refusal n)

said_again : (a : Result Answer Error) → answer_of (said_of a) ≡ a
said_again (Ok Done) = refl
said_again (Ok (Full n)) = refl
said_again (Err e) = ap Err (refusal-number e)

pub said_once : (a a' : Result Answer Error) → said_of a ≡ said_of a' → a ≡ a'
said_once a a' e = sym (said_again a) ∙ ap answer_of e ∙ said_again a'

module _ (k : Call) (s : OStream) (b : List ℕ) (place : ℕ) where
  -- one of its tests fails
  pub written-refused : (e : Error) → judged k.tests ≡ refused_with e → written k s b place ≡ untouched (number_of e) s b
  unfolding written written_by
  written-refused e a = ap (λ (v : Judgement). written_by v k s b place) a

  -- the place lies beyond its output
  pub written_beyond : judged k.tests ≡ accepted → length k.output < place → written k s b place ≡ untouched 11 s b
  unfolding written written_by emitted
  written_beyond a h =
      let t : ltb (length k.output) place ≡ true = lt-ltb _ _ h in
      ap (λ (v : Judgement). written_by v k s b place) a ∙ simp t

  -- there is room for the rest
  pub written_through : judged k.tests ≡ accepted → place ≤ length k.output → length k.output - place ≤ length b - s.offset
      → written k s b place ≡ record { said = through; stream = at k.done (s.offset + (length k.output - place)); buf = put b s.offset (drop place k.output) }
  unfolding written written_by emitted
  written_through a h r =
      let t : ltb (length k.output) place ≡ false = le-ltb _ _ h in
      let u : leb (length k.output - place) (length b - s.offset) ≡ true = le-leb _ _ r in
      ap (λ (v : Judgement). written_by v k s b place) a ∙ simp (t, u)

  -- there is not
  pub written_full : judged k.tests ≡ accepted → place ≤ length k.output → length b - s.offset < length k.output - place
      → written k s b place ≡ record { said = full (place + (length b - s.offset)); stream = at s (length b); buf = put b s.offset (drop place k.output) }
  unfolding written written_by emitted
  written_full a h r =
      let t : ltb (length k.output) place ≡ false = le-ltb _ _ h in
      let u : leb (length k.output - place) (length b - s.offset) ≡ false = lt-leb _ _ r in
      ap (λ (v : Judgement). written_by v k s b place) a ∙ simp (t, u)
