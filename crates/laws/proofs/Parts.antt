-- The parts of a field: signed values, checked values, floats, elements and payloads meet the laws of a reader.
use Prim.Native.Nat.{ℕ, zero, suc, ◌+◌, ◌*◌, ◌/◌, ◌%◌, ◌^◌, ◌<◌}
use mathlib.Core.Path.{◌≡◌, refl, sym, ap, ◌∙◌, subst}
use mathlib.Core.Bool.{Bool, true, false}
use mathlib.Core.List.{List, [], ◌∷◌, ◌++◌, map, append_assoc, append-nil}
use native.Mathlib.Nat.{pow-suc}
use native.Mathlib.Numerals.{add-one}
use native.Mathlib.Omega.{arith}
use lib.ListN.{length, length-append}
use lib.IntN.{ℤ, pos, negsuc}
use borrow.Author.Tests.{eq-eqb, ne_eqb}
use lib.Dec.{eqb}
use borrow.Author.Tests.{eqb-true, eqb-false}
use Rattle.layout.specs.Limits.{Limits}
use Rattle.layout.specs.Varint.{Outcome, whole, short, broken, varint, shortest}
use Rattle.layout.specs.Zigzag.{zigzag, unzigzag}
use Rattle.layout.specs.Field.{Raw, low_bytes, each}
use Rattle.layout.specs.Event.{Event, Piece, cut_from, cut_piece}
use Rattle.layout.specs.Reading.{given, follow, low_from}
use Rattle.layout.specs.Message.{checked, unzigzagged, signed_varint, elements, payload_from, payload_of}
use Rattle.layout.specs.Message.{All, Bytes}
use Rattle.laws.proofs.Parser.{Got, Parses, Had, Reads, given-whole, becoming-whole}
use Rattle.laws.proofs.Varint.{varint_parses}

-- ---- signed values

unzigzag-zigzag : (z : ℤ) → unzigzag (zigzag z) ≡ z
unzigzag-zigzag (pos n) =
    let e : 2 * n / 2 ≡ n = omega arith in
    simp (eq-eqb (2 * n % 2) 0 (omega arith), e)
unzigzag-zigzag (negsuc n) =
    let e : (2 * n + 1) / 2 ≡ n = omega arith in
    simp (ne_eqb ((2 * n + 1) % 2) 0 (omega arith), e)

zigzag-unzigzag : (u : ℕ) → zigzag (unzigzag u) ≡ u
zigzag-unzigzag u = go (eqb (u % 2) 0) refl
  where
    go : (t : Bool) → eqb (u % 2) 0 ≡ t → zigzag (unzigzag u) ≡ u
    go true e = simp e (omega (arith, eqb-true (u % 2) 0 e))
    go false e = simp e (omega (arith, eqb-false (u % 2) 0 e))

pub signed_parses : (L : Limits) → Parses (signed_varint L) (λ z. zigzag z < 2 ^ L.bits) (λ z. shortest (zigzag z))
unfolding unzigzagged
signed_parses L = record { forth = forth; back = back }
  where
    forth : (z : ℤ) (rest : List ℕ) → zigzag z < 2 ^ L.bits → signed_varint L (shortest (zigzag z) ++ rest) ≡ whole z rest
    forth z rest h = ap unzigzagged ((varint_parses L).forth (zigzag z) rest h) ∙ ap (λ y. whole y rest) (unzigzag-zigzag z)

    go : (bs : List ℕ) (z : ℤ) (rest : List ℕ) → Bytes bs → (o : Outcome ℕ) → varint L bs ≡ o → unzigzagged o ≡ whole z rest →
        Got (λ z. zigzag z < 2 ^ L.bits) (λ z. shortest (zigzag z)) bs z rest
    go bs z rest a (whole u mid) e s =
        let m : mid ≡ rest = cc in
        let q : unzigzag u ≡ z = cc in
        let g : Got (λ n. n < 2 ^ L.bits) shortest bs (zigzag z) rest =
        (varint_parses L).back bs (zigzag z) rest a (e ∙ ap (whole u) m ∙ ap (λ n. whole n rest) (sym (zigzag-unzigzag u) ∙ ap zigzag q))
        in
        record { legal = g.legal; shorter = g.shorter; bytes = g.bytes }
    go bs z rest a short e s = absurd (let q : ◌≡◌ {A = ℕ} 0 1 = cc in omega arith)
    go bs z rest a (broken r) e s = absurd (let q : ◌≡◌ {A = ℕ} 0 1 = cc in omega arith)

    back : (bs : List ℕ) (z : ℤ) (rest : List ℕ) → Bytes bs → signed_varint L bs ≡ whole z rest →
        Got (λ z. zigzag z < 2 ^ L.bits) (λ z. shortest (zigzag z)) bs z rest
    back bs z rest a e = go bs z rest a (varint L bs) refl e

-- ---- a value that passes a test

module _ {A : Type 0} {p : List ℕ → Outcome A} {ok : A → Type 0} {enc : A → List ℕ} (reads : Parses p ok enc) (test : A → Bool) where
  pub checked_parses : Parses (λ bs. checked test (p bs)) (λ a. ok a × (test a ≡ true)) enc
  unfolding checked
  checked_parses = record { forth = forth; back = back }
    where
      forth : (a : A) (rest : List ℕ) → ok a × (test a ≡ true) → checked test (p (enc a ++ rest)) ≡ whole a rest
      forth a rest h = ap (checked test) (reads.forth a rest h.0) ∙ simp h.1

      go : (bs : List ℕ) (a : A) (rest : List ℕ) → Bytes bs → (o : Outcome A) → p bs ≡ o → checked test o ≡ whole a rest → (p bs ≡ whole a rest) × (test a ≡ true)
      go bs a rest w (whole b mid) e s = test_is (test b) refl
        where
          test_is : (t : Bool) → test b ≡ t → (p bs ≡ whole a rest) × (test a ≡ true)
          test_is true q =
              let s' : whole b mid ≡ whole a rest = simp q at s in
              let b≡ : b ≡ a = cc in
              (e ∙ s', ap test (sym b≡) ∙ q)
          test_is false q = absurd (let s' : broken mid ≡ whole a rest = simp q at s in let z : ◌≡◌ {A = ℕ} 0 1 = cc in omega arith)
      go bs a rest w short e s = absurd (let q : ◌≡◌ {A = ℕ} 0 1 = cc in omega arith)
      go bs a rest w (broken r) e s = absurd (let q : ◌≡◌ {A = ℕ} 0 1 = cc in omega arith)

      back : (bs : List ℕ) (a : A) (rest : List ℕ) → Bytes bs → checked test (p bs) ≡ whole a rest → Got (λ a. ok a × (test a ≡ true)) enc bs a rest
      back bs a rest w e =
          let g = go bs a rest w (p bs) refl e in
          let h = reads.back bs a rest w g.0 in
          record { legal = (h.legal, g.1); shorter = h.shorter; bytes = h.bytes }

-- ---- floats, low byte first

pub length_low : (n x : ℕ) → length (low_bytes n x) ≡ n
unfolding low_bytes
length_low zero x = refl
length_low (suc n) x = ap suc (length_low n (x / 256))

low_regroup : (v b x y : ℕ) (p : ℕ) → y ≡ b + 256 * x → v + b * p + x * (p * 256) ≡ v + y * p
low_regroup v b x y p e = omega (arith, ap (λ (n : ℕ). n * p) e)

low_forth : (n k v x : ℕ) (rest : List ℕ) → x < 256 ^ n → low_from n k v (low_bytes n x ++ rest) ≡ whole (v + x * 256 ^ k) rest
unfolding low_from low_bytes
low_forth zero k v x rest h = let z : x ≡ 0 = omega arith in ap (λ n. whole n rest) (rw z (omega arith))
low_forth (suc n) k v x rest h =
    low_forth n (k + 1) (v + x % 256 * 256 ^ k) (x / 256) rest (omega (arith, pow-suc 256 n))
    ∙ ap (λ n. whole n rest) (rw (add-one, pow-suc 256 k) (low_regroup v (x % 256) (x / 256) x (256 ^ k) (omega arith)))

record Low (n k v : ℕ) (bs : List ℕ) (y : ℕ) (rest : List ℕ) : Type 0 where
  digits : ℕ
  is : y ≡ v + digits * 256 ^ k
  small : digits < 256 ^ n
  long : n + length rest ≡ length bs
  bytes : Bytes rest

low_next : (n k v b : ℕ) (bs : List ℕ) (y : ℕ) (rest : List ℕ) → b < 256 → Low n (k + 1) (v + b * 256 ^ k) bs y rest → Low (suc n) k v (b ∷ bs) y rest
low_next n k v b bs y rest h m =
    let p : 256 ^ (k + 1) ≡ 256 ^ k * 256 = simp (add-one, pow-suc) in
    record {
      digits = b + 256 * m.digits;
      is = rw p at m.is ∙ low_regroup v b m.digits (b + 256 * m.digits) (256 ^ k) refl;
      small = omega (arith, pow-suc 256 n);
      long = omega arith;
      bytes = m.bytes;
    }

low_back : (n k v : ℕ) (bs : List ℕ) (y : ℕ) (rest : List ℕ) → Bytes bs → low_from n k v bs ≡ whole y rest → Low n k v bs y rest
unfolding low_from
low_back zero k v bs y rest a e =
    let v≡ : v ≡ y = cc in
    let b≡ : bs ≡ rest = cc in
    record { digits = 0; is = sym v≡ ∙ omega arith; small = omega arith; long = rw b≡ (omega arith); bytes = subst Bytes b≡ a }
low_back (suc n) k v [] y rest a e = absurd (let q : ◌≡◌ {A = ℕ} 0 1 = cc in omega arith)
low_back (suc n) k v (b ∷ bs) y rest a e = low_next n k v b bs y rest a.0 (low_back n (k + 1) (v + b * 256 ^ k) bs y rest a.1 e)

pub low_parses : (n : ℕ) → Parses (low_from n 0 0) (λ x. x < 256 ^ n) (low_bytes n)
low_parses n = record { forth = forth; back = back }
  where
    forth : (x : ℕ) (rest : List ℕ) → x < 256 ^ n → low_from n 0 0 (low_bytes n x ++ rest) ≡ whole x rest
    forth x rest h = let e : 0 + x * 1 ≡ x = omega arith in low_forth n 0 0 x rest h ∙ ap (λ y. whole y rest) e

    back : (bs : List ℕ) (x : ℕ) (rest : List ℕ) → Bytes bs → low_from n 0 0 bs ≡ whole x rest → Got (λ x. x < 256 ^ n) (low_bytes n) bs x rest
    back bs x rest a e =
        let m = low_back n 0 0 bs x rest a e in
        record { legal = omega (arith, m); shorter = rw length_low (omega (arith, m.long)); bytes = m.bytes }

-- ---- elements

module _ {A : Type 0} {p : List ℕ → Outcome A} {ok : A → Type 0} {enc : A → List ℕ} (reads : Parses p ok enc) (e : A → Event) where
  elements_forth : (xs : List A) (rest : List ℕ) → All ok xs → elements p e (length xs) (each enc xs ++ rest) ≡ record { events = map e xs; outcome = whole xs rest }
  unfolding elements each given follow
  elements_forth [] rest h = refl
  elements_forth (x ∷ xs) rest h =
      rw (append_assoc (enc x) (each enc xs) rest, reads.forth x (each enc xs ++ rest) h.0, elements_forth xs rest h.1) (ap (λ es. record { events = e x ∷ es; outcome = whole (x ∷ xs) rest }) (append-nil (map e xs)))

  one_had : (n : ℕ) (bs mid rest : List ℕ) (x : A) (xs : List A) (es : List Event) → Got ok enc bs x mid →
      Had (λ xs. All ok xs × (length xs ≡ n)) (each enc) (map e) mid es xs rest →
      Had (λ xs. All ok xs × (length xs ≡ suc n)) (each enc) (map e) bs (e x ∷ es) (x ∷ xs) rest
  unfolding each
  one_had n bs mid rest x xs es g h =
      record {
        got = record {
          legal = ((g.legal, h.got.legal.0), ap suc h.got.legal.1);
          shorter = rw length-append (omega arith);
          bytes = h.got.bytes;
        };
        raised = ap (λ es. e x ∷ es) h.raised;
      }

  elements_back : (n : ℕ) (bs : List ℕ) (xs : List A) (rest : List ℕ) → Bytes bs → (elements p e n bs).outcome ≡ whole xs rest →
      Had (λ xs. All ok xs × (length xs ≡ n)) (each enc) (map e) bs (elements p e n bs).events xs rest
  unfolding elements each
  elements_back zero bs xs rest a s =
      let x≡ : [] ≡ xs = cc in
      let b≡ : bs ≡ rest = cc in
      subst (λ xs. Had (λ xs. All ok xs × (length xs ≡ 0)) (each enc) (map e) bs [] xs rest) x≡
      (record { got = record { legal = (tt, refl); shorter = rw b≡ (omega arith); bytes = subst Bytes b≡ a }; raised = refl })
  elements_back (suc n) bs xs rest a s =
      given-whole xs rest (λ es. Had (λ xs. All ok xs × (length xs ≡ suc n)) (each enc) (map e) bs es xs rest) (p bs) _ s
      (λ x mid q t.
      let g : Got ok enc bs x mid = reads.back bs x mid a q in
      becoming-whole xs rest (λ es. Had (λ xs. All ok xs × (length xs ≡ suc n)) (each enc) (map e) bs (e x ∷ es) xs rest) (elements p e n mid) (λ xs. x ∷ xs) t
      (λ ys u w.
      subst (λ xs. Had (λ xs. All ok xs × (length xs ≡ suc n)) (each enc) (map e) bs (e x ∷ (elements p e n mid).events) xs rest) w
      (one_had n bs mid rest x ys (elements p e n mid).events g (elements_back n mid ys rest g.bytes u))))

  pub elements_reads : (n : ℕ) → Reads (elements p e n) (λ xs. All ok xs × (length xs ≡ n)) (each enc) (map e)
  elements_reads n =
      record {
        forth = λ xs rest h. subst (λ m. elements p e m (each enc xs ++ rest) ≡ record { events = map e xs; outcome = whole xs rest }) h.1 (elements_forth xs rest h.0);
        back = elements_back n;
      }

-- ---- payloads

payload_forth : (id : ℕ) (r : Raw) (total o : ℕ) (bs rest : List ℕ) → payload_from id r total o (length bs) (bs ++ rest) ≡ record { events = cut_from id r total o bs; outcome = whole bs rest }
unfolding payload_from cut_from follow
payload_forth id r total o [] rest = refl
payload_forth id r total o (b ∷ bs) rest = rw (payload_forth id r total (suc o) bs rest) (ap (λ es. record { events = Piece id r total o (b ∷ []) ∷ es; outcome = whole (b ∷ bs) rest }) (append-nil (cut_from id r total (suc o) bs)))

-- a payload of n bytes from an offset on
abbrev Gathered : ℕ → Raw → ℕ → ℕ → ℕ → List ℕ → List Event → List ℕ → List ℕ → Type 0
Gathered id r total o n bs es xs rest = Had (λ xs. Bytes xs × (length xs ≡ n)) (λ xs. xs) (cut_from id r total o) bs es xs rest

one_gathered : (id : ℕ) (r : Raw) (total o n b : ℕ) (bs : List ℕ) (es : List Event) (xs rest : List ℕ) → b < 256 →
    Gathered id r total (suc o) n bs es xs rest → Gathered id r total o (suc n) (b ∷ bs) (Piece id r total o (b ∷ []) ∷ es) (b ∷ xs) rest
unfolding cut_from
one_gathered id r total o n b bs es xs rest h g =
    record {
      got = record { legal = ((h, g.got.legal.0), ap suc g.got.legal.1); shorter = omega arith; bytes = g.got.bytes };
      raised = ap (λ es. Piece id r total o (b ∷ []) ∷ es) g.raised;
    }

payload_back : (id : ℕ) (r : Raw) (total o n : ℕ) (bs xs rest : List ℕ) → Bytes bs → (payload_from id r total o n bs).outcome ≡ whole xs rest →
    Gathered id r total o n bs (payload_from id r total o n bs).events xs rest
unfolding payload_from cut_from
payload_back id r total o zero bs xs rest a s =
    let x≡ : [] ≡ xs = cc in
    let b≡ : bs ≡ rest = cc in
    subst (λ xs. Gathered id r total o 0 bs [] xs rest) x≡
    (record { got = record { legal = (tt, refl); shorter = rw b≡ (omega arith); bytes = subst Bytes b≡ a }; raised = refl })
payload_back id r total o (suc n) [] xs rest a s = absurd (let q : ◌≡◌ {A = ℕ} 0 1 = cc in omega arith)
payload_back id r total o (suc n) (b ∷ bs) xs rest a s =
    becoming-whole xs rest (λ es. Gathered id r total o (suc n) (b ∷ bs) (Piece id r total o (b ∷ []) ∷ es) xs rest) (payload_from id r total (suc o) n bs) (λ xs. b ∷ xs) s
    (λ ys u w.
    subst (λ xs. Gathered id r total o (suc n) (b ∷ bs) (Piece id r total o (b ∷ []) ∷ (payload_from id r total (suc o) n bs).events) xs rest) w
    (one_gathered id r total o n b bs (payload_from id r total (suc o) n bs).events ys rest a.0 (payload_back id r total (suc o) n bs ys rest a.1 u)))

-- pieces of a payload that is not empty
pieces : (id : ℕ) (r : Raw) (total n : ℕ) (xs : List ℕ) → length xs ≡ suc n → cut_from id r total 0 xs ≡ cut_piece id r total 0 xs
unfolding cut_piece
pieces id r total n [] e = absurd (omega arith)
pieces id r total n (b ∷ xs) e = refl

payload_whole : (id : ℕ) (r : Raw) (xs rest : List ℕ) → payload_of id r (length xs) (xs ++ rest) ≡ record { events = cut_piece id r (length xs) 0 xs; outcome = whole xs rest }
unfolding payload_of cut_piece
payload_whole id r [] rest = refl
payload_whole id r (b ∷ xs) rest = payload_forth id r (suc (length xs)) 0 (b ∷ xs) rest

-- a payload of n bytes, all of it
abbrev GatheredAll : ℕ → Raw → ℕ → List ℕ → List Event → List ℕ → List ℕ → Type 0
GatheredAll id r n bs es xs rest = Had (λ xs. Bytes xs × (length xs ≡ n)) (λ xs. xs) (cut_piece id r n 0) bs es xs rest

payload_all : (id : ℕ) (r : Raw) (n : ℕ) (bs xs rest : List ℕ) → Bytes bs → (payload_of id r n bs).outcome ≡ whole xs rest →
    GatheredAll id r n bs (payload_of id r n bs).events xs rest
unfolding payload_of cut_piece
payload_all id r zero bs xs rest a s =
    let x≡ : [] ≡ xs = cc in
    let b≡ : bs ≡ rest = cc in
    subst (λ xs. GatheredAll id r 0 bs (Piece id r 0 0 [] ∷ []) xs rest) x≡
    (record { got = record { legal = (tt, refl); shorter = rw b≡ (omega arith); bytes = subst Bytes b≡ a }; raised = refl })
payload_all id r (suc n) bs xs rest a s =
    let g = payload_back id r (suc n) 0 (suc n) bs xs rest a s in
    record { got = g.got; raised = g.raised ∙ pieces id r (suc n) n xs g.got.legal.1 }

pub payload_reads : (id : ℕ) (r : Raw) (n : ℕ) → Reads (payload_of id r n) (λ xs. Bytes xs × (length xs ≡ n)) (λ xs. xs) (cut_piece id r n 0)
payload_reads id r n =
    record {
      forth = λ xs rest h. subst (λ m. payload_of id r m (xs ++ rest) ≡ record { events = cut_piece id r m 0 xs; outcome = whole xs rest }) h.1 (payload_whole id r xs rest);
      back = payload_all id r n;
    }
