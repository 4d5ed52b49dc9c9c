-- What the functions of a turn answer, as the definitions have it.
use mathlib.Core.Path.{◌≡◌, sym, ap, ◌∙◌, subst}
use mathlib.Core.List.{List}
use Prim.Native.Nat.{ℕ}
use lib.ListN.{drop}
use Rattle.std.specs.Prelude.{Ok}
use Rattle.layout.specs.Limits.{base}
use Rattle.istream.specs.declared.IStream.{IStream}
use Rattle.istream.specs.declared.Fed.{Fed}
use Rattle.istream.specs.Stream.{state_of, fed_of}
use Rattle.putting.specs.Put.{put, reached}
use Rattle.copying.specs.Owed.{due_in}
use Rattle.turns.specs.declared.Answer.{Answer}
use Rattle.turns.specs.declared.Turn.{Turn}
use Rattle.turns.specs.declared.Turn.TheVariants as turns
use Rattle.turns.specs.Turns.{pause, heard_turn, heard_buf, Went, Turned}

-- the call's parts put together
pub turned_by : (s : IStream) (pos : ℕ) (c b : List ℕ) (left : ℕ) (f : Fed) (t : Turn) (b' : List ℕ) → left ≡ due_in (state_of s) → f ≡ fed_of base s c
    → (t ≡ heard_turn s.carried.depth left f pos b) × (b' ≡ heard_buf left f pos b)
    → Turned s pos c b (heard_turn s.carried.depth (due_in (state_of s)) (fed_of base s c) pos b) (heard_buf (due_in (state_of s)) (fed_of base s c) pos b) → Turned s pos c b t b'
turned_by s pos c b left f t b' e i (p, q) h =
    let x = p ∙ ap (λ (n : ℕ). heard_turn s.carried.depth n f pos b) e ∙ ap (λ (y : Fed). heard_turn s.carried.depth (due_in (state_of s)) y pos b) i in
    let z = q ∙ ap (λ (n : ℕ). heard_buf n f pos b) e ∙ ap (λ (y : Fed). heard_buf (due_in (state_of s)) y pos b) i in
    subst (λ (y : Turn). Turned s pos c b y b') (sym x) (subst (λ (y : List ℕ). Turned s pos c b (heard_turn s.carried.depth (due_in (state_of s)) (fed_of base s c) pos b) y) (sym z) h)

pub turned_stop : (s : IStream) (pos : ℕ) (c b : List ℕ) (t : Turn) (d n : ℕ) (a a' : Answer) (s' : IStream) (end : ℕ) (b' : List ℕ) → t ≡ turns.Stop (pause d n (Ok a) s' end) → a ≡ a'
    → Turned s pos c b (turns.Stop (pause d n (Ok a') s' end)) b' → Turned s pos c b t b'
turned_stop s pos c b t d n a a' s' end b' e i h = subst (λ (x : Turn). Turned s pos c b x b') (sym (e ∙ ap (λ (x : Answer). turns.Stop (pause d n (Ok x) s' end)) i)) h

pub went_is : (s : IStream) (pos : ℕ) (c b : List ℕ) (s' : IStream) (n end : ℕ) (b' : List ℕ) (l : List ℕ) → Went s pos c b s' n (reached b pos l) (put b pos l)
    → (end ≡ reached b pos (drop 0 l)) × (b' ≡ put b pos (drop 0 l)) → Went s pos c b s' n end b'
went_is s pos c b s' n end b' l w (p, q) =
    subst (λ (m : ℕ). Went s pos c b s' n m b') (sym p) (subst (λ (y : List ℕ). Went s pos c b s' n (reached b pos l) y) (sym q) w)
