-- A call step by step: what the machine's scan comes to at each turn of the code's loop, and a payload's bytes.
use mathlib.Core.Path.{◌≡◌, refl, sym, ap, ◌∙◌, subst}
use mathlib.Core.List.{List, [], ◌∷◌}
use Prim.Native.Nat.{ℕ, suc, ◌+◌, ◌-◌, ◌<◌, ◌≤◌, min}
use native.Mathlib.Omega.{arith}
use native.Mathlib.Nat.{min-eq_left, min-eq_right}
use lib.ListN.{length, get_or, take, drop}
use lib.Seq.{drop-cons, drop-length, length-take-le}
use lib.Dec.{ltb}
use borrow.Author.Tests.{lt-ltb, le-ltb}
use Rattle.layout.specs.Limits.{Limits, pick}
use Rattle.layout.specs.Field.{string, blob}
use Rattle.machine.specs.Machine as machine
use Rattle.machine.specs.Machine.{in_payload, idle, on, bad}
use Rattle.machine.specs.Calls.{State, reading, owing, broke, Called, call, scan, scanned, verdict_so, raised_state}
use Rattle.machine.specs.Calls as pieces
use Rattle.types.specs.Types.{raw_sort}
use Rattle.types.specs.declared.RawType.{RawType}
use Rattle.types.specs.declared.RawType.TheVariants as Raws
use Rattle.event.specs.declared.Event.{Event}
use Rattle.event.specs.declared.Event.TheVariants.{Str, Blob}
use Rattle.event.specs.Event.{piece_in}
use Rattle.phase.specs.declared.Carried.{Carried}
use Rattle.phase.specs.declared.Phase.{Phase}
use Rattle.phase.specs.declared.Phase.TheVariants.{Payload}
use Rattle.phase.specs.Phases.{state_at, phase_in, phase_of, carried_at, depth_of, carried_of}
use Rattle.phase.specs.Sound.{AtBytes, Kept}
use Rattle.phase.proofs.Phases.{raw_back, state_back, phase_back, depth_back, at_bytes_live}
use Rattle.phase.proofs.Keeps.{step_keeps}
use Rattle.phase.proofs.Scans.{scan_byte}
use Rattle.phase.specs.declared.Stepped.{Stepped}
use Rattle.phase.specs.declared.Stepped.TheVariants.{On, Raised}
use Rattle.phase.specs.Steps.{stepped, step_on, covered}
use Rattle.call_end.specs.declared.Status.TheVariants.{Incomplete}
use Rattle.std.specs.Prelude.{Ok, Option, Some, None}
use Rattle.call_end.specs.declared.Answer.TheVariants.{Event as Happened, Status}
use Rattle.call_end.specs.CallEnd.{status_in, end_in, end_at, stopped}

-- ---- reading on from a state, n bytes being read

abbrev pub scan_on : Limits → ℕ → State → List ℕ → Called
scan_on L n (reading d p) bs = scan L n d p bs
scan_on L n (owing d id r) bs = call L (owing d id r) bs
scan_on L n broke bs = call L broke bs

pub call-scan : (L : Limits) (st : State) (bs : List ℕ) → call L st bs ≡ scan_on L 0 st bs
unfolding call
call-scan L (reading d p) bs = refl
call-scan L (owing d id r) bs = refl
call-scan L broke bs = refl

-- a byte that ends the call
abbrev pub Leaves : Option Stepped → Type 0
Leaves (Some (On p k)) = ⊥
Leaves (Some (Raised e p k)) = Unit {0}
Leaves None = Unit {0}

leave : (L : Limits) (n : ℕ) (m : machine.Stepped) (f : ℕ → machine.Phase → Called) → Kept L m → Leaves (stepped m) → stopped n (stepped m) ≡ end_in (scanned n m f)
unfolding scanned end_in
leave L n (on [] d p) f k o = absurd o
leave L n (on (e ∷ es) d p) f k o = ap (λ (x : Event). stopped n (Some (Raised x (phase_of (raised_state d p es)) (carried_of (raised_state d p es))))) (sym (k.0 (n - covered e)))
leave L n bad f k o = refl

pub ends-call : (L : Limits) (n : ℕ) (st : State) (b : ℕ) (bs : List ℕ) (s : Option Stepped) → AtBytes L st → b < 256 → s ≡ stepped (step_on L st b) → Leaves s → stopped (suc n) s ≡ end_in (scan_on L n st (b ∷ bs))
ends-call L n (reading d p) b bs s a h e o =
    ap (stopped (suc n)) e
    ∙ leave L (suc n) (machine.step L d p b) (λ d' p'. scan L (suc n) d' p' bs) (step_keeps L d p b a h) (subst Leaves e o)
    ∙ ap end_in (sym (scan_byte L n d p b bs a.1.1))
ends-call L n (owing d id r) b bs s a h e o = absurd a
ends-call L n broke b bs s a h e o = absurd a

-- a byte that does not
pub record GoesOn (L : Limits) (n : ℕ) (st : State) (b : ℕ) (bs : List ℕ) (q : Phase) (k : Carried) : Type 0 where
  pub bytes : AtBytes L (state_at k.depth q)
  pub same : scan_on L n st (b ∷ bs) ≡ scan_on L (suc n) (state_at k.depth q) bs

pub goes_on : (L : Limits) (n : ℕ) (st : State) (b : ℕ) (bs : List ℕ) (q : Phase) (k : Carried) → AtBytes L st → b < 256 → Some (On q k) ≡ stepped (step_on L st b) → GoesOn L n st b bs q k
unfolding scanned
goes_on L n (reading d p) b bs q k₁ a h e = go (machine.step L d p b) refl (step_keeps L d p b a h) e
  where
    go : (m : machine.Stepped) → machine.step L d p b ≡ m → Kept L m → Some (On q k₁) ≡ stepped m → GoesOn L n (reading d p) b bs q k₁
    go (on [] d' p') r k f =
        let g : q ≡ phase_in p' = cc in
        let j : k₁ ≡ carried_at d' = cc in
        let i : state_at k₁.depth q ≡ reading d' p' = ap (state_at k₁.depth) g ∙ ap (λ (x : Carried). state_at x.depth (phase_in p')) j ∙ state_back d' p' in
        record {
          bytes = subst (AtBytes L) (sym i) k;
          same =
              scan_byte L n d p b bs a.1.1
              ∙ ap (λ (m : machine.Stepped). scanned (suc n) m (λ d' p'. scan L (suc n) d' p' bs)) r
              ∙ ap (λ (st : State). scan_on L (suc n) st bs) (sym i);
        }
    go (on (v ∷ vs) d' p') r k f = let z : ◌≡◌ {A = ℕ} 0 1 = cc in absurd (omega arith)
    go bad r k f = let z : ◌≡◌ {A = ℕ} 0 1 = cc in absurd (omega arith)
goes_on L n (owing d id r) b bs q k₁ a h e = absurd a
goes_on L n broke b bs q k₁ a h e = absurd a

-- the chunk's end
spent_at : (L : Limits) (n d : ℕ) (p : Phase) (st : State) → state_at d p ≡ st → phase_of st ≡ p → depth_of st ≡ d → AtBytes L st → stopped n (Some (On p (carried_at d))) ≡ end_in (scan_on L n st [])
unfolding verdict_so scan end_in
spent_at L n d p (reading d' q) e f g a = λ i. end_at n (Ok (Status (status_in (verdict_so (e i))))) (sym f i) (carried_at (sym g i))
spent_at L n d p (owing d' id r) e f g a = absurd a
spent_at L n d p broke e f g a = absurd a

at_end : (L : Limits) (n d : ℕ) (p : Phase) → AtBytes L (state_at d p) → stopped n (Some (On p (carried_at d))) ≡ end_in (scan_on L n (state_at d p) [])
at_end L n d p a = let l = at_bytes_live L (state_at d p) a in spent_at L n d p (state_at d p) refl (phase_back d p l) (depth_back d p l) a

-- ---- the turns of the loop, n bytes of the chunk being read

module _ (L : Limits) (chunk : List ℕ) (st : State) (p : Phase) (d n : ℕ) (a : AtBytes L (state_at d p)) (e : call L st chunk ≡ scan_on L n (state_at d p) (drop n chunk)) where
  next_byte : n < length chunk → call L st chunk ≡ scan_on L n (state_at d p) (get_or chunk n 0 ∷ drop (suc n) chunk)
  next_byte h = e ∙ ap (scan_on L n (state_at d p)) (drop-cons chunk n 0 h)

  pub turn-ends : (s : Option Stepped) → n < length chunk → get_or chunk n 0 < 256 → s ≡ stepped (step_on L (state_at d p) (get_or chunk n 0)) → Leaves s → stopped (n + 1) s ≡ end_in (call L st chunk)
  turn-ends s h b f o =
      let i : n + 1 ≡ suc n = omega arith in
      ap (λ (m : ℕ). stopped m s) i ∙ ends-call L n (state_at d p) (get_or chunk n 0) (drop (suc n) chunk) s a b f o ∙ ap end_in (sym (next_byte h))

  pub turn_goes : (s : Option Stepped) (q : Phase) (k : Carried) → n < length chunk → get_or chunk n 0 < 256 → s ≡ stepped (step_on L (state_at d p) (get_or chunk n 0)) → s ≡ Some (On q k)
      → AtBytes L (state_at k.depth q) × (call L st chunk ≡ scan_on L (n + 1) (state_at k.depth q) (drop (n + 1) chunk))
  turn_goes s q k h b f g =
      let i : suc n ≡ n + 1 = omega arith in
      let o = goes_on L n (state_at d p) (get_or chunk n 0) (drop (suc n) chunk) q k a b (sym g ∙ f) in
      (o.bytes, next_byte h ∙ o.same ∙ ap (λ (m : ℕ). scan_on L m (state_at k.depth q) (drop m chunk)) i)

  pub turn_last : n ≡ length chunk → stopped n (Some (On p (carried_at d))) ≡ end_in (call L st chunk)
  turn_last i =
      at_end L n d p a ∙ ap end_in (ap (scan_on L n (state_at d p)) (sym (ap (λ (m : ℕ). drop m chunk) i ∙ drop-length chunk)) ∙ sym e)

-- ---- payloads

-- In a payload, an empty chunk gives the verdict incomplete and no empty piece.
pub no_bytes : (L : Limits) (d id : ℕ) (r : RawType) (total o : ℕ) (c : List ℕ) → length c ≡ 0 → end_at 0 (Ok (Status Incomplete)) (Payload id r total o) (carried_at d) ≡ end_in (call L (reading d (in_payload id (raw_sort r) total o)) c)
unfolding call scan end_in machine.ending machine.verdict_after
no_bytes L d id Raws.Str total o [] h = refl
no_bytes L d id Raws.Blob total o [] h = refl
no_bytes L d id r total o (b ∷ bs) h = absurd (omega arith)

-- k bytes of the chunk in one piece
pub some_bytes : (L : Limits) (d id : ℕ) (r : RawType) (total o k : ℕ) (c : List ℕ) → (length c ≡ 0 → ⊥) → min (total - o) (length c) ≡ k
    → end_at k (Ok (Happened (piece_in id r total o k))) (phase_in (pick (ltb (o + k) total) (in_payload id (raw_sort r) total (o + k)) idle)) (carried_at d)
    ≡ end_in (call L (reading d (in_payload id (raw_sort r) total o)) c)
unfolding call scan end_in
some_bytes L d id r total o k [] h e = absurd (h refl)
some_bytes L d id Raws.Str total o k (b ∷ bs) h e =
    let l : length (take k (b ∷ bs)) ≡ k = length-take-le k (b ∷ bs) (omega arith) in
    let i : k ≡ 0 + k = omega arith in
    let f : 0 ≡ 0 + k - length (take k (b ∷ bs)) = omega arith in
    let t : k ≡ 0 + k - length (take k (b ∷ bs)) + length (take k (b ∷ bs)) = omega arith in
    (λ j. end_at (i j) (Ok (Happened (Str id (record { total = total; offset = o; from = f j; to = t j })))) (phase_in (pick (ltb (o + k) total) (in_payload id string total (o + k)) idle)) (carried_at d))
    ∙ ap (λ (m : ℕ). end_in (pieces.piece 0 d id string total o m (b ∷ bs))) (sym e)
some_bytes L d id Raws.Blob total o k (b ∷ bs) h e =
    let l : length (take k (b ∷ bs)) ≡ k = length-take-le k (b ∷ bs) (omega arith) in
    let i : k ≡ 0 + k = omega arith in
    let f : 0 ≡ 0 + k - length (take k (b ∷ bs)) = omega arith in
    let t : k ≡ 0 + k - length (take k (b ∷ bs)) + length (take k (b ∷ bs)) = omega arith in
    (λ j. end_at (i j) (Ok (Happened (Blob id (record { total = total; offset = o; from = f j; to = t j })))) (phase_in (pick (ltb (o + k) total) (in_payload id blob total (o + k)) idle)) (carried_at d))
    ∙ ap (λ (m : ℕ). end_in (pieces.piece 0 d id blob total o m (b ∷ bs))) (sym e)

pub part_read : (L : Limits) (d id : ℕ) (r : RawType) (total o : ℕ) (c : List ℕ) (v : Event) → (length c ≡ 0 → ⊥) → length c < total - o → v ≡ piece_in id r total o (length c)
    → end_at (length c) (Ok (Happened v)) (Payload id r total (o + length c)) (carried_at d) ≡ end_in (call L (reading d (in_payload id (raw_sort r) total o)) c)
part_read L d id r total o c v h l e =
    ap (λ (x : Event). end_at (length c) (Ok (Happened x)) (Payload id r total (o + length c)) (carried_at d)) e
    ∙ simp (lt-ltb (o + length c) total (omega arith), raw_back r) at (some_bytes L d id r total o (length c) c h (min-eq_right (omega arith)))

pub rest_read : (L : Limits) (d id : ℕ) (r : RawType) (total o : ℕ) (c : List ℕ) (v : Event) (p : Phase) → o < total → (length c ≡ 0 → ⊥) → total - o ≤ length c → v ≡ piece_in id r total o (total - o) → p ≡ phase_in idle
    → end_at (total - o) (Ok (Happened v)) p (carried_at d) ≡ end_in (call L (reading d (in_payload id (raw_sort r) total o)) c)
rest_read L d id r total o c v p g h l e f =
    (λ i. end_at (total - o) (Ok (Happened (e i))) (f i) (carried_at d))
    ∙ simp (le-ltb (o + (total - o)) total (omega arith)) at (some_bytes L d id r total o (total - o) c h (min-eq_left l))
