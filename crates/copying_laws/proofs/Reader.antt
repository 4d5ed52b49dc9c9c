-- Whatever every call of the reader keeps, a call of the copier keeps: it does nothing else to the reader's state.
use Prim.Native.Nat.{ℕ, zero, suc}
use mathlib.Core.Path.{sym, subst}
use mathlib.Core.Bool.{Bool, true, false}
use mathlib.Core.List.{List, [], ◌∷◌}
use lib.ListN.{take, drop}
use Rattle.layout.specs.Limits.{Limits}
use Rattle.layout.specs.Event.{Event}
use Rattle.layout.specs.Message.{All}
use Rattle.machine.specs.Calls.{State, reading, owing, broke, Pace, byte, bulk, pace_of, call}
use Rattle.machine.specs.Calls as calls
use Rattle.copying.specs.Copy.{Copy, Copied, gone, handed, stuck, heard, fits, all_of, copies, turns_for, copy}
use Rattle.copying.proofs.Turns.{turned_by, turn_is, goes, goes_on, paced, handed_is}

all_take : (Q : ℕ → Type 0) (n : ℕ) (c : List ℕ) → All Q c → All Q (take n c)
all_take Q zero c h = tt
all_take Q (suc n) [] h = tt
all_take Q (suc n) (x ∷ c) h = (h.0, all_take Q n c h.1)

all_drop : (Q : ℕ → Type 0) (n : ℕ) (c : List ℕ) → All Q c → All Q (drop n c)
all_drop Q zero c h = h
all_drop Q (suc n) [] h = tt
all_drop Q (suc n) (x ∷ c) h = all_drop Q n c h.1

all_handed : (Q : ℕ → Type 0) (s : State) (room : ℕ) (c : List ℕ) → All Q c → All Q (handed s room c)
unfolding handed
all_handed Q (reading d p) room c h = subst (All Q) (sym (handed_is d p room c)) (go (pace_of p))
  where
    go : (q : Pace) → All Q (paced q room c)
    go byte = h
    go (bulk id r total o) = all_take Q room c h
all_handed Q (owing d id r) room c h = h
all_handed Q broke room c h = h

module _ (L : Limits) (P : State → Type 0) (Q : ℕ → Type 0) (keeps : (s : State) (c : List ℕ) → All Q c → P s → P (call L s c).state) where
  heard_keeps : (k : Copy) (c b : List ℕ) (j : ℕ) (a : calls.Said) (s : State) (f : Event → Copied) → P s → ((e : Event) → P (f e).copy.reader)
      → P (heard k c b (record { read = j; answer = a; state = s }) f).copy.reader
  unfolding heard
  heard_keeps k c b j (calls.event e) s f h g = g e
  heard_keeps k c b j (calls.verdict v) s f h g = h
  heard_keeps k c b j calls.invalid s f h g = h

  goes_keeps : (n room : ℕ) (k : Copy) (c b : List ℕ) → All Q c → P k.reader → ((k : Copy) (c : List ℕ) → All Q c → P k.reader → P (copies L n k c b).copy.reader)
      → P (goes L n room k c b).copy.reader
  unfolding goes_on
  goes_keeps n room k c b h p later = go (stuck k.reader room c)
    where
      go : (t : Bool) → P (goes_on L n room k c b t).copy.reader
      go true = p
      go false =
          let r = call L k.reader (handed k.reader room c) in
          let q = keeps k.reader (handed k.reader room c) (all_handed Q k.reader room c h) p in
          heard_keeps k c b r.read r.answer r.state _ q (λ e. later (gone k r.state (all_of k.reader e)) (drop r.read c) (all_drop Q r.read c h) q)

  turned_keeps : (n : ℕ) (k : Copy) (c b : List ℕ) (t : Bool) → All Q c → P k.reader
      → ((k : Copy) (c b : List ℕ) → All Q c → P k.reader → P (copies L n k c b).copy.reader) → P (turned_by L n k c b t).copy.reader
  unfolding turned_by
  turned_keeps n k c b false h p later = p
  turned_keeps n k c b true h p later = goes_keeps n _ _ c _ h p (λ k' c' h' p'. later k' c' _ h' p')

  turns_keep : (n : ℕ) (k : Copy) (c b : List ℕ) → All Q c → P k.reader → P (copies L n k c b).copy.reader
  unfolding copies
  turns_keep zero k c b h p = p
  turns_keep (suc n) k c b h p =
      subst (λ (r : Copied). P r.copy.reader) (sym (turn_is L n k c b))
      (turned_keeps n k c b (fits k b) h p (λ k' c' b' h' p'. turns_keep n k' c' b' h' p'))

  pub copy_reader : (k : Copy) (c b : List ℕ) → All Q c → P k.reader → P (copy L k c b).copy.reader
  unfolding copy
  copy_reader k c b h p = turns_keep (turns_for c) k c b h p
