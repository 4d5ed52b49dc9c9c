-- Fields one after another: what was written is read back; and fields that are read are whole, legal and balanced, raised their own events and
-- took no fewer bytes than their shortest.
use Prim.Native.Nat.{ℕ, zero, suc, ◌+◌, ◌*◌, ◌≤◌}
use mathlib.Core.Path.{◌≡◌, refl, sym, ap, ◌∙◌, subst}
use mathlib.Core.List.{List, [], ◌∷◌, ◌++◌, map, append-nil}
use native.Mathlib.Omega.{arith}
use lib.ListN.{length, length-append}
use Rattle.layout.specs.Limits.{Limits}
use Rattle.layout.specs.Varint.{Outcome, whole, short, broken, varint_from, shortest}
use Rattle.layout.specs.Zigzag.{zigzag}
use Rattle.layout.specs.Field.{Field, Wire, bytes_of, wire_number, header, word, low_bytes, each, float, raw}
use Rattle.layout.specs.Field.{t_unsigned, t_signed, t_fixlen, t_unsigneds, t_signeds, t_floats, unsigned, signed, payload, unsigned_array, signed_array, float_array, begin, end}
use Rattle.layout.specs.Event.{Event}
use Rattle.layout.specs.Reading.{quiet, raise, given, follow, becoming}
use Rattle.layout.specs.Message.{checked, field, depth_after, Fields, prepend, fields_from, WholeFields, none, next}
use Rattle.layout.specs.Copy.{field_bytes, encode}
use Rattle.layout.specs.Message.{All, Bytes}
use Rattle.laws.specs.Legal.{Fit, Legal, Balanced, settled}
use Rattle.laws.specs.Events.{field_events, fields_events}
use Rattle.laws.proofs.Parser.{follow-whole, becoming-whole}
use Rattle.varint.proofs.Shortest.{length_some}
use Rattle.laws.proofs.Field.{field_forth, Back, field_back}

headed_some : (id : ℕ) (t : Wire) (bs : List ℕ) → 1 ≤ length (header id t ++ bs)
headed_some id t bs = simp length-append (omega (arith, length_some (id * 8 + wire_number t)))

-- a field has bytes
field_some : (x : Field) → 1 ≤ length (field_bytes x)
unfolding field_bytes
field_some (unsigned id n) = headed_some id t_unsigned (shortest n)
field_some (signed id z) = headed_some id t_signed (shortest (zigzag z))
field_some (float id w x) = headed_some id t_fixlen (word (bytes_of w) (float w) ++ low_bytes (bytes_of w) x)
field_some (payload id r bs) = headed_some id t_fixlen (word (length bs) (raw r) ++ bs)
field_some (unsigned_array id ns) = headed_some id t_unsigneds (shortest (length ns) ++ each shortest ns)
field_some (signed_array id zs) = headed_some id t_signeds (shortest (length zs) ++ each (λ z. shortest (zigzag z)) zs)
field_some (float_array id w xs) = headed_some id t_floats (shortest (length xs) ++ (word (bytes_of w) (float w) ++ each (low_bytes (bytes_of w)) xs))
field_some (begin id) = length_some (id * 8 + 6)
field_some (end id) = length_some 7

settled_depth : (d : ℕ) (x : Field) → depth_after d (settled x) ≡ depth_after d x
unfolding depth_after
settled_depth d (unsigned id n) = refl
settled_depth d (signed id z) = refl
settled_depth d (float id w x) = refl
settled_depth d (payload id r bs) = refl
settled_depth d (unsigned_array id ns) = refl
settled_depth d (signed_array id zs) = refl
settled_depth d (float_array id w xs) = refl
settled_depth d (begin id) = refl
settled_depth d (end id) = refl

settled_bytes : (x : Field) → field_bytes (settled x) ≡ field_bytes x
unfolding field_bytes
settled_bytes (unsigned id n) = refl
settled_bytes (signed id z) = refl
settled_bytes (float id w x) = refl
settled_bytes (payload id r bs) = refl
settled_bytes (unsigned_array id ns) = refl
settled_bytes (signed_array id zs) = refl
settled_bytes (float_array id w xs) = refl
settled_bytes (begin id) = refl
settled_bytes (end id) = refl

pub encode-settled : (xs : List Field) → encode (map settled xs) ≡ encode xs
unfolding encode each
encode-settled [] = refl
encode-settled (x ∷ xs) = rw (settled_bytes x, encode-settled xs)

-- ---- fields one at a time

at_end : (L : Limits) (n d : ℕ) → fields_from L n d [] ≡ quiet (whole (record { list = []; depth = d }) [])
unfolding fields_from
at_end L zero d = refl
at_end L (suc n) d = refl

one_field : (L : Limits) (n d : ℕ) (bs : List ℕ) (x : Field) (rest : List ℕ) → (field L d bs).outcome ≡ whole x rest →
    fields_from L (suc n) d bs ≡ raise (field L d bs).events (becoming (prepend x) (fields_from L n (depth_after d x) rest))
unfolding fields_from follow field given checked varint_from
one_field L n d [] x rest s = absurd (let z : ◌≡◌ {A = ℕ} 0 1 = cc in omega arith)
one_field L n d (b ∷ bs) x rest s = rw s

-- ---- written and read back

pub fields_forth : (L : Limits) → Fit L → (xs : List Field) (n d e : ℕ) → All (Legal L) xs → Balanced L d xs e → length (encode xs) ≤ n →
    fields_from L n d (encode xs) ≡ record { events = fields_events xs; outcome = whole (record { list = map settled xs; depth = e }) [] }
unfolding encode each fields_events follow
fields_forth L fit [] n d e h b l = at_end L n d ∙ ap (λ e. quiet (whole (record { list = []; depth = e }) [])) b
fields_forth L fit (x ∷ xs) zero d e h b l = absurd (omega (arith, length-append (field_bytes x) (each field_bytes xs), field_some x))
fields_forth L fit (x ∷ xs) (suc n) d e h b l =
    let q : field L d (field_bytes x ++ encode xs) ≡ record { events = field_events x; outcome = whole (settled x) (encode xs) } = field_forth L fit d x (encode xs) h.0 b.0 in
    let t : length (encode xs) ≤ n = omega (arith, length-append (field_bytes x) (encode xs), field_some x) in
    one_field L n d (field_bytes x ++ encode xs) (settled x) (encode xs) (ap (λ r. r.outcome) q)
    ∙ rw (q, settled_depth d x, fields_forth L fit xs n (depth_after d x) e h.1 b.1 t, append-nil)

-- ---- read

-- the fields xs, from depth d to depth e, were read from bs with these events
pub record Run (L : Limits) (d : ℕ) (bs : List ℕ) (es : List Event) (fs : Fields) : Type 0 where
  pub wholly : WholeFields L d bs fs.list fs.depth
  pub legal : All (Legal L) fs.list
  pub balanced : Balanced L d fs.list fs.depth
  pub events : es ≡ fields_events fs.list
  pub shorter : length (encode fs.list) ≤ length bs

run_end : (L : Limits) (d : ℕ) (fs : Fields) (rest : List ℕ) → (quiet (whole (record { list = []; depth = d }) [])).outcome ≡ whole fs rest → Run L d [] [] fs
unfolding encode each fields_events
run_end L d fs rest s =
    let f≡ : record { list = []; depth = d } ≡ fs = cc in
    subst (Run L d [] []) f≡ (record { wholly = none; legal = tt; balanced = refl; events = refl; shorter = omega arith })

run-next : (L : Limits) (d : ℕ) (bs mid : List ℕ) (x : Field) (es es' : List Event) (fs : Fields) → (field L d bs).outcome ≡ whole x mid → Back L d (length bs) mid x es →
    Run L (depth_after d x) mid es' fs → Run L d bs (es ++ es') (prepend x fs)
unfolding encode each fields_events
run-next L d bs mid x es es' fs q g r =
    record {
      wholly = next q r.wholly;
      legal = (g.legal, r.legal);
      balanced = (g.nests, r.balanced);
      events = rw (g.events, r.events);
      shorter = simp length-append (omega (arith, g.shorter, r.shorter));
    }

pub fields_back : (L : Limits) (n d : ℕ) (bs : List ℕ) (fs : Fields) (rest : List ℕ) → Bytes bs → (fields_from L n d bs).outcome ≡ whole fs rest → Run L d bs (fields_from L n d bs).events fs
unfolding fields_from
fields_back L zero d [] fs rest a s = run_end L d fs rest s
fields_back L zero d (b ∷ bs) fs rest a s = absurd (let z : ◌≡◌ {A = ℕ} 0 1 = cc in omega arith)
fields_back L (suc n) d [] fs rest a s = run_end L d fs rest s
fields_back L (suc n) d (b ∷ bs) fs rest a s =
    follow-whole fs rest (λ es. Run L d (b ∷ bs) es fs) (field L d (b ∷ bs)).events (field L d (b ∷ bs)).outcome _ s
    (λ x mid q t.
    let g = field_back L d (b ∷ bs) x mid a q in
    becoming-whole fs rest (λ es. Run L d (b ∷ bs) ((field L d (b ∷ bs)).events ++ es) fs) (fields_from L n (depth_after d x) mid) (prepend x) t
    (λ gs u w.
    subst (Run L d (b ∷ bs) ((field L d (b ∷ bs)).events ++ (fields_from L n (depth_after d x) mid).events)) w
    (run-next L d (b ∷ bs) mid x _ _ gs q g (fields_back L n (depth_after d x) mid gs rest g.bytes u))))

-- whole fields are read so
pub wholly_read : (L : Limits) {d e : ℕ} {bs : List ℕ} {xs : List Field} → WholeFields L d bs xs e → (n : ℕ) → Bytes bs → length bs ≤ n →
    (fields_from L n d bs).outcome ≡ whole (record { list = xs; depth = e }) []
unfolding follow
wholly_read L {d} none n a l = ap (λ r. r.outcome) (at_end L n d)
wholly_read L {d} {bs = bs} (next {rest = rest} {x = x} q w) zero a l = absurd (omega (arith, (field_back L d bs x rest a q).shorter, field_some x))
wholly_read L {d} {bs = bs} (next {rest = rest} {x = x} q w) (suc n) a l =
    let g : Back L d (length bs) rest x (field L d bs).events = field_back L d bs x rest a q in
    ap (λ r. r.outcome) (one_field L n d bs x rest q) ∙ rw (wholly_read L w n g.bytes (omega (arith, g.shorter, field_some x)))

-- As many fields as there are bytes are enough, whatever the bytes come to.
pub fuel_free : (L : Limits) (n m d : ℕ) (bs : List ℕ) → Bytes bs → length bs ≤ n → length bs ≤ m → fields_from L n d bs ≡ fields_from L m d bs
unfolding fields_from follow
fuel_free L zero m d [] a h k = sym (at_end L m d)
fuel_free L (suc n) m d [] a h k = sym (at_end L m d)
fuel_free L zero m d (b ∷ bs) a h k = absurd (omega arith)
fuel_free L (suc n) zero d (b ∷ bs) a h k = absurd (omega arith)
fuel_free L (suc n) (suc m) d (b ∷ bs) a h k = go (field L d (b ∷ bs)).outcome refl (fuel_free L n m)
  where
    es : List Event
    es = (field L d (b ∷ bs)).events

    go : (o : Outcome Field) → (field L d (b ∷ bs)).outcome ≡ o →
        ((d : ℕ) (bs : List ℕ) → Bytes bs → length bs ≤ n → length bs ≤ m → fields_from L n d bs ≡ fields_from L m d bs) →
        follow es o (λ x rest. becoming (prepend x) (fields_from L n (depth_after d x) rest)) ≡ follow es o (λ x rest. becoming (prepend x) (fields_from L m (depth_after d x) rest))
    go (whole x rest) q ih =
        let g = field_back L d (b ∷ bs) x rest a q in
        let l : length rest ≤ length bs = omega (arith, g.shorter, field_some x) in
        ap (λ r. raise es (becoming (prepend x) r)) (ih (depth_after d x) rest g.bytes (omega arith) (omega arith))
    go short q ih = refl
    go (broken r) q ih = refl
