-- A series at its opening, taken or refused: nothing is sent, and all that it comes to is still to be put out.
use Prim.Native.Nat.{ℕ, ◌≤◌}
use native.Mathlib.Nat.{le_refl, zero-mul, not-suc-le-zero}
use native.Mathlib.Omega.{arith}
use mathlib.Core.Path.{◌≡◌, refl, sym, ap, ◌∙◌, subst}
use mathlib.Core.Bool.{Bool, true, false}
use mathlib.Core.List.{List, [], ◌∷◌, ◌++◌}
use borrow.Author.Tests.{le-ltb}
use lib.ListN.{length, take, drop_of_length-le}
use lib.Seq.{length-take-le}
use Rattle.std.specs.Prelude.{Ok}
use Rattle.ostream.specs.declared.Answer.TheVariants.{Done}
use Rattle.ostream.specs.declared.Written.{Written}
use Rattle.ostream.specs.Stream.{every, opened}
use Rattle.ostream.specs.Emission.{said_of}
use Rattle.ostream.specs.Buffer.{bad_buffer, opening}
use Rattle.ostream.proofs.Buffers.{fit, open_taken, open_refused}
use Rattle.writes.specs.Series.{Able, Op, outputs, Desk, numbers_in, reserved_by, fresh, begun}
use Rattle.writes.specs.Written.{Write, ops_of, series, message_of, refused_of, state_of}
use Rattle.writes.proofs.Runs.{whole, whole_refused, last_state, Fine, at-start, outputs-at, refusals-at, finally-at}
use Rattle.writes.proofs.Drains.{Lean}
use Rattle.writes.proofs.Exact.{Level}
use Rattle.writes.proofs.Written.{make_sound, steady, outputs-written}

-- `OStream::new` is an opening at 0 that is taken over every buffer.
pub opening_new : (size : ℕ) → opening size 0 false ≡ record { answer = Ok Done; stream = opened 0 }
unfolding opening
opening_new size = simp (le-ltb size 0 (omega arith))

-- by what it answers: taken at the offset, or refused with 5
by_opening : (P : Desk → Type 0) (b : List ℕ) (o : ℕ) (drained : Bool) (ops : List Op) → (o ≤ length b → P (fresh (opened o) b (take o b) ops [])) → P (fresh (opened 0) b [] ops (5 ∷ []))
    → P (begun b o drained ops)
unfolding begun
by_opening P b o drained ops opens stays = go (bad_buffer (length b) o drained).fails refl
  where
    go : (t : Bool) → (bad_buffer (length b) o drained).fails ≡ t
        → P (fresh (opening (length b) o drained).stream b (reserved_by (opening (length b) o drained).answer b o) ops (numbers_in (said_of (opening (length b) o drained).answer)))
    go true t = subst (λ (r : Written). P (fresh r.stream b (reserved_by r.answer b o) ops (numbers_in (said_of r.answer)))) (sym (open_refused (length b) o drained t)) stays
    go false t = subst (λ (r : Written). P (fresh r.stream b (reserved_by r.answer b o) ops (numbers_in (said_of r.answer)))) (sym (open_taken (length b) o drained t)) (opens (fit (length b) o drained t))

pub fresh_able : (o size : ℕ) → o ≤ size → Able (opened o) size
unfolding opened every
fresh_able o size h = (make_sound (opened o) size (record { inside = h; few = omega arith; nested = omega arith; shallow = omega arith; legal = refl; zeros = refl }), refl)

fresh_fine : (b : List ℕ) (o : ℕ) (ws : List Write) (numbers : List ℕ) → o ≤ length b → Fine (fresh (opened o) b (take o b) (ops_of ws) numbers)
unfolding opened
fresh_fine b o ws numbers h =
    let n : length (take o b) ≡ o = length-take-le o b h in
    record { sound = fresh_able o (length b) h; reserved = omega (arith, n); as_came = ap (λ (m : ℕ). take m b) n; steady = steady ws; placed = at-start (opened o) (ops_of ws) }

-- Whatever it answers, the series stands at its start: nothing is sent, and all is still to be put out.
pub begun_fine : (b : List ℕ) (o : ℕ) (drained : Bool) (ws : List Write) → Fine (series b o drained ws)
begun_fine b o drained ws = by_opening Fine b o drained (ops_of ws) (fresh_fine b o ws []) (fresh_fine b 0 ws (5 ∷ []) (omega arith))

fresh-whole : (b : List ℕ) (o : ℕ) (ws : List Write) (numbers : List ℕ) → o ≤ length b → whole (fresh (opened o) b (take o b) (ops_of ws) numbers) ≡ message_of ws
unfolding whole opened message_of
fresh-whole b o ws numbers h =
    ap (λ (l : List ℕ). l ++ outputs (opened o) (ops_of ws)) (drop_of_length-le (take o b) (le_refl (length (take o b))))
    ∙ outputs-at (opened 0) o (ops_of ws) (steady ws) ∙ outputs-written ws (opened 0) (refl, omega arith)

pub begun-whole : (b : List ℕ) (o : ℕ) (drained : Bool) (ws : List Write) → whole (series b o drained ws) ≡ message_of ws
begun-whole b o drained ws = by_opening (λ (d : Desk). whole d ≡ message_of ws) b o drained (ops_of ws) (fresh-whole b o ws []) (fresh-whole b 0 ws (5 ∷ []) (omega arith))

pub begun-refused : (b : List ℕ) (o : ℕ) (drained : Bool) (ws : List Write) → whole_refused (series b o drained ws) ≡ refused_of ws
unfolding whole_refused opened refused_of
begun-refused b o drained ws = by_opening (λ (d : Desk). whole_refused d ≡ refused_of ws) b o drained (ops_of ws) (λ h. refusals-at (opened 0) o (ops_of ws) (steady ws)) refl

pub begun_state : (b : List ℕ) (o : ℕ) (drained : Bool) (ws : List Write) (p : ℕ) → last_state (series b o drained ws) p ≡ state_of ws p
unfolding last_state opened state_of
begun_state b o drained ws p = by_opening (λ (d : Desk). last_state d p ≡ state_of ws p) b o drained (ops_of ws) (λ h. finally-at (opened 0) o (ops_of ws) p (steady ws)) refl

pub begun_lean : (b : List ℕ) (drained : Bool) (ws : List Write) → 1 ≤ length b → Lean (series b 0 drained ws)
begun_lean b drained ws h = by_opening Lean b 0 drained (ops_of ws) (λ l. lean []) (lean (5 ∷ []))
  where
    lean : (numbers : List ℕ) → Lean (fresh (opened 0) b [] (ops_of ws) numbers)
    lean numbers = record { room = h; start = refl; few = omega arith; filled = λ x. let w : ◌≡◌ {A = ℕ} 0 1 = cc in absurd (omega arith) }

pub begun-level : (b : List ℕ) (drained : Bool) (ws : List Write) → Level (length b) (length (message_of ws)) (series b 0 drained ws)
begun-level b drained ws = by_opening (Level (length b) (length (message_of ws))) b 0 drained (ops_of ws) (λ l. level []) (level (5 ∷ []))
  where
    no : false ≡ true → ⊥
    no x = let w : ◌≡◌ {A = ℕ} 0 1 = cc in omega arith

    level : (numbers : List ℕ) → Level (length b) (length (message_of ws)) (fresh (opened 0) b [] (ops_of ws) numbers)
    level numbers =
        record { long = refl; start = refl; even = sym (zero-mul (length b)); counted = refl; filled = λ x. absurd (no x); owes = λ x. absurd (no x); more = λ x. absurd (not-suc-le-zero x) }
