-- One call of a fresh copier on a complete message, the output being its buffer: what it says and leaves is what the export is held to.
use Prim.Native.Nat.{ℕ, ◌<◌, ◌≤◌}
use native.Mathlib.Omega.{arith}
use mathlib.Core.Path.{◌≡◌, refl, sym, ap, ◌∙◌, subst}
use mathlib.Core.Bool.{Bool, true, false}
use mathlib.Core.List.{List, ◌++◌}
use lib.Dec.{leb}
use lib.IntN.{ℤ, pos, negsuc}
use lib.ListN.{length, take, drop}
use borrow.Author.Tests.{leb-true, leb-false}
use Rattle.layout.specs.Limits.{base}
use Rattle.layout.specs.Message.{Bytes, complete, verdict_of}
use Rattle.layout.specs.Copy.{plain_copy}
use Rattle.ostream.specs.declared.Written.{Written}
use Rattle.ostream.specs.Stream.{opened}
use Rattle.ostream.proofs.Buffers.{fits, open_taken, open_refused, opened-sound}
use Rattle.istream.proofs.Laws.{fresh-sound}
use Rattle.copying.specs.Copy.{copy}
use Rattle.copying_laws.proofs.Whole.{copy-whole}
use Rattle.copier.specs.declared.Copier.{Copier}
use Rattle.copier.specs.declared.Copied as results
use Rattle.copying.specs.Owed.{agrees, sound_owed}
use Rattle.copying.specs.Refusals.{sound_with, refusing}
use Rattle.copier.specs.Copier.{copy_of, sound_writer}
use Rattle.copier.specs.Calls.{full, verdict, Outcome, said_of, said_in, result_in, fresh_over, started}
use Rattle.copier.specs.Calls as calls
use Rattle.exports.specs.Exports.{result_of, filled}
use Rattle.host.proofs.Filled.{fitting, too_short}

-- a copier opened at 0 is fresh and stands at 0, whatever the buffer: one of no byte too
start_copier : (size : ℕ) → (started size 0).copier ≡ fresh_over (opened 0)
unfolding started
start_copier size = go (leb size 0) refl
  where
    go : (t : Bool) → leb size 0 ≡ t → (started size 0).copier ≡ fresh_over (opened 0)
    go true e = ap (λ (r : Written). fresh_over r.stream) (open_refused size 0 true e)
    go false e = ap (λ (r : Written). fresh_over r.stream) (open_taken size 0 true (fits size 0 true (leb-false size 0 e)))

record Fed (m b : List ℕ) (r : Outcome) : Type 0 where
  fits : length m ≤ length b → (r.said ≡ verdict complete) × (r.copier.writer.offset ≡ length m) × (r.buf ≡ m ++ drop (length m) b)
  short : length b < length m → (r.said ≡ full) × (r.buf ≡ take (length b) m)

-- a fresh copier is refused nothing
goes_on : (T b : List ℕ) → calls.copied (fresh_over (opened 0)) T b ≡ result_in (fresh_over (opened 0)) (copy base (copy_of (fresh_over (opened 0))) T b)
unfolding calls.copied refusing sound_writer sound_with sound_owed agrees opened
goes_on T b = simp (fresh-sound, opened-sound 0 (length b) (omega arith))

fed-whole : (T b : List ℕ) → Bytes T → verdict_of base T ≡ complete → Fed (plain_copy base T) b (calls.copied (fresh_over (opened 0)) T b)
unfolding opened
fed-whole T b a v =
    let w = copy-whole base T b a v in
    subst (Fed (plain_copy base T) b) (sym (goes_on T b))
    (record { fits = λ l. let q = w.fits l in (ap said_in q.0, q.1, q.2); short = λ l. let q = w.short l in (ap said_in q.0, q.1) })

-- ---- what the call says

-- a test that fails
pub apart : {P : Type 0} (x : Bool) → (P → x ≡ true) → x ≡ false → P → ⊥
apart x f e p = cc (f p)

module _ (T b : List ℕ) (a : Bytes T) (v : verdict_of base T ≡ complete) (s : length b < 9223372036854775808) (k : Copier) (o : k ≡ (started (length b) 0).copier) (r : results.Copied) (b' : List ℕ)
    (e : calls.result_of r b' ≡ calls.copied k T b) where
  abbrev m : List ℕ
  m = plain_copy base T

  fed : Fed m b (calls.result_of r b')
  fed = subst (Fed m b) (sym (e ∙ ap (λ (x : Copier). calls.copied x T b) (o ∙ start_copier (length b)))) (fed-whole T b a v)

  -- by whether there is room
  by_room : (x : ℤ) → (length m ≤ length b → x ≡ pos (length m)) → (length b < length m → x ≡ negsuc 100) → result_of x b' ≡ filled m b
  by_room x one two = go (leb (length m) (length b)) refl
    where
      go : (t : Bool) → leb (length m) (length b) ≡ t → result_of x b' ≡ filled m b
      go true t =
          let l : length m ≤ length b = leb-true (length m) (length b) t in
          (λ i. result_of (one l i) ((fed.fits l).2 i)) ∙ sym (fitting m b s l)
      go false t =
          let l : length b < length m = leb-false (length m) (length b) t in
          (λ i. result_of (two l i) ((fed.short l).1 i)) ∙ sym (too_short m b s l)

  pub answers_full : said_of r.answer ≡ full → result_of (negsuc 100) b' ≡ filled m b
  answers_full h = by_room (negsuc 100) (λ l. absurd (cc (h, (fed.fits l).0))) (λ l. refl)

  pub answers_length : (said_of r.answer ≡ full → ⊥) → result_of (pos r.copier.writer.offset) b' ≡ filled m b
  answers_length h = by_room (pos r.copier.writer.offset) (λ l. ap pos (fed.fits l).1) (λ l. absurd (h (fed.short l).0))

  -- a length is one that an answer can name
  pub offset_small : (said_of r.answer ≡ full → ⊥) → r.copier.writer.offset < 9223372036854775808
  offset_small h = go (leb (length m) (length b)) refl
    where
      go : (t : Bool) → leb (length m) (length b) ≡ t → r.copier.writer.offset < 9223372036854775808
      go true t = omega (arith, (fed.fits (leb-true (length m) (length b) t)).1, leb-true (length m) (length b) t)
      go false t = absurd (h (fed.short (leb-false (length m) (length b) t)).0)
