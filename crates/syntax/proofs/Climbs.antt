-- What is joined by `climb` and `invert`.
use Rattle.std.proofs.Common.{◌≡◌, ℕ, zero, suc, ◌+◌, ◌<◌, ◌≤◌, Bool, cond, List, Option, sym, ap, ◌∙◌, subst, inl, arith, le-leb}
use borrow.Author.Tests.{lt-leb}
use Rattle.base.specs.declared.Op.{Op}
use Rattle.base.specs.Ops.{op_code}
use Rattle.syntax.specs.Ast.{Expr, invert, binary}
use Rattle.syntax.specs.Grammar.{strength}
use Rattle.syntax.specs.Parser.{Block, Goal, assign_to, condition_in, delay_in, Pending, whole, right_of, bracket, climb, inverts}
use Rattle.syntax.specs.Tree.{Holds}
use Rattle.syntax.specs.Frames.{ExprAt, frame, Topped, Stacked, Wrote, Same, Operands, Climbs, Inverts, added, Joined, ends, joins, JoinsOperator, JoinsNot}
use Rattle.syntax.specs.declared.frame.Frame.{Frame}
use Rattle.syntax.specs.declared.frame.Frame.TheVariants.{Bracket, RightOf, Not}
use Rattle.syntax.specs.declared.state.Parser.{Parser}
use Rattle.syntax.specs.declared.node.Node.{Node}
use Rattle.syntax.specs.declared.node.Node.TheVariants.{Not as NotNode, Binary}
use Rattle.syntax.proofs.Cells.{expr_kept, stacked_same}

-- the frame on top, by what waits
pub top_goal : {f : Frame} {b : Block} {m : List ℕ} {s : List Frame} {n d : ℕ} (c : ℕ) → Topped f b m s n d → d ≡ c + 1 → frame s c ≡ f
top_goal {f} {s = s} c g z = let here : g.below ≡ c = omega (arith, g.size) in subst (λ (i : ℕ). frame s i ≡ f) here g.is

pub top_whole : (g : Goal) (m : List ℕ) (s : List Frame) (n d c : ℕ) → Stacked m n s d (whole g) → d ≡ c + 1 → (frame s c ≡ Bracket → ⊥) × (frame s c ≡ Not → ⊥) × ((o : Op) (y : ℕ) → frame s c ≡ RightOf o y → ⊥)
unfolding Stacked
top_whole (assign_to i b) m s n d c f z = let x = top_goal c f z in ((λ e. cc), (λ e. cc), (λ o y e. cc))
top_whole (condition_in b) m s n d c f z = let x = top_goal c f z in ((λ e. cc), (λ e. cc), (λ o y e. cc))
top_whole (delay_in i j b) m s n d c f z = let x = top_goal c f z in ((λ e. cc), (λ e. cc), (λ o y e. cc))

pub top_bracket : (k : ℕ) (p : Pending) (m : List ℕ) (s : List Frame) (n d c : ℕ) → Stacked m n s d (bracket k p) → d ≡ c + 1 → frame s c ≡ Bracket
unfolding Stacked
top_bracket k p m s n d c f z = let here : f.0 + k ≡ c = omega (arith, f.1) in subst (λ (i : ℕ). frame s i ≡ Bracket) here f.2

-- a left operand on top
record Left (o : Op) (a : Expr) (p : Pending) (m : List ℕ) (s : List Frame) (n c : ℕ) : Type 0 where
  node : ℕ
  is : frame s c ≡ RightOf o node
  tree : ExprAt m n node a
  rest : Stacked m n s c p

top_left : (o : Op) (a : Expr) (p : Pending) (m : List ℕ) (s : List Frame) (n d c : ℕ) → Stacked m n s d (right_of o a p) → d ≡ c + 1 → Left o a p m s n c
unfolding Stacked
top_left o a p m s n d c f z =
    let here : f.0 ≡ c = omega (arith, f.2) in
    record { node = f.1; is = subst (λ (i : ℕ). frame s i ≡ RightOf o f.1) here f.3; tree = f.4; rest = subst (λ (i : ℕ). Stacked m n s i p) here f.5 }

-- nothing is joined
stays : (l : ℕ) (w : Pending) (e : Expr) {p : Parser} → climb l w e ≡ (w, e) → Operands w e p → Operands (climb l w e).0 (climb l w e).1 p
stays l w e {p} q o = subst (λ (c : Pending × Expr). Operands c.0 c.1 p) (sym q) o

-- the frame on top is no operator that binds tightly enough, or there is none
loose : (l : ℕ) (p : Parser) → ((c : ℕ) → p.depth ≡ c + 1 → (o : Op) (y : ℕ) → frame p.frames c ≡ RightOf o y → l < strength o) → Climbs l p p
unfolding climb Stacked
loose l p h (whole g) e o = o
loose l p h (bracket k w) e o = o
loose l p h (right_of q a w) e o =
    let f = o.frames in
    stays l (right_of q a w) e (ap (λ (b : Bool). cond b (climb l w (binary q a e)) (right_of q a w, e)) (lt-leb (strength q) l (h f.0 (omega (arith, f.2)) q f.1 f.3))) o

-- one operator more
tight : (l : ℕ) (p p' : Parser) (m : List ℕ) (c y : ℕ) (q : Op) → p.depth ≡ c + 1 → frame p.frames c ≡ RightOf q y → strength q ≤ l → Wrote p.nodes m p.used (Binary q y p.last) →
    Climbs l (added m (record p { depth = c })) p' → Climbs l p p'
unfolding climb Holds
tight l p p' m c y q z k t x r (whole g) e o = absurd ((top_whole g p.nodes p.frames p.used p.depth c o.frames z).2 q y k)
tight l p p' m c y q z k t x r (bracket j w) e o = let x = top_bracket j w p.nodes p.frames p.used p.depth c o.frames z in cc
tight l p p' m c y q z k t x r (right_of u a w) e o =
    let n = p.used in
    let f = top_left u a w p.nodes p.frames n p.depth c o.frames z in
    let both : RightOf q y ≡ RightOf u f.node = sym k ∙ f.is in
    let op : q ≡ u = cc in
    let at : f.node ≡ y = cc in
    let same : Same n p.nodes m = λ j h. x.others j (inl h) in
    let binds : strength u ≤ l = subst (λ (v : Op). strength v ≤ l) op t in
    let left : ExprAt m n y a = expr_kept a n n y p.nodes m same (omega arith) (subst (λ (i : ℕ). ExprAt p.nodes n i a) at f.tree) in
    let right : ExprAt m n p.last e = expr_kept e n n p.last p.nodes m same (omega arith) o.tree in
    let tree : Holds m n (binary u a e) = (x.first, x.second ∙ ap op_code op, rw x.third left.0, rw x.third left.1, rw x.fourth right.0, rw x.fourth right.1) in
    let on = r w (binary u a e) (record { frames = stacked_same w n (n + 1) p.nodes m p.frames c same (omega arith) f.rest; tree = (omega arith, tree) }) in
    subst (λ (b : Bool). Operands (cond b (climb l w (binary u a e)) (right_of u a w, e)).0 (cond b (climb l w (binary u a e)) (right_of u a w, e)).1 p') (sym (le-leb (strength u) l binds)) on

-- what `climb` joins
pub climbs : (l : ℕ) (R : Frame → ℕ → Option Node → Type 0) → ((f : Frame) (x : ℕ) (y : Option Node) → R f x y → JoinsOperator l f x y) → {p p' : Parser} → Joined R p p' → Climbs l p p'
climbs l R h (ends p s) = loose l p (λ c z. h _ _ _ (s c z))
climbs l R h (joins p p' c m x z j w r) =
    let k = h _ _ _ j in
    tight l p p' m c k.1 k.0 z k.2 k.3 (subst (Wrote p.nodes m p.used) k.4 w) (climbs l R h r)

-- what waits has no not on top
top_not : (w : Pending) (m : List ℕ) (s : List Frame) (n d c : ℕ) → Stacked m n s d w → d ≡ c + 1 → frame s c ≡ Not → ⊥
top_not (whole g) m s n d c f z q = (top_whole g m s n d c f z).1 q
top_not (bracket k w) m s n d c f z q = let x = top_bracket k w m s n d c f z in cc
top_not (right_of o a w) m s n d c f z q = let x = (top_left o a w m s n d c f z).is in cc

-- no not is on top
no_not : (p : Parser) → ((c : ℕ) → p.depth ≡ c + 1 → frame p.frames c ≡ Not → ⊥) → Inverts p p
unfolding inverts
no_not p h zero w e a t = record { frames = subst (λ (i : ℕ). Stacked p.nodes p.used p.frames i w) (omega (arith, a.count)) a.frames; tree = t }
no_not p h (suc k) w e a t = absurd (h (a.base + k) (omega (arith, a.count)) (a.nots (a.base + k) (omega arith) (omega (arith, a.count))))

-- one not more
one_not : (p p' : Parser) (m : List ℕ) (c : ℕ) → p.depth ≡ c + 1 → frame p.frames c ≡ Not → Wrote p.nodes m p.used (NotNode p.last) → Inverts (added m (record p { depth = c })) p' → Inverts p p'
unfolding inverts Holds
one_not p p' m c z q x r zero w e a t = absurd (top_not w p.nodes p.frames p.used a.base c a.frames (omega (arith, a.count)) q)
one_not p p' m c z q x r (suc k) w e a t =
    let n = p.used in
    let same : Same n p.nodes m = λ j q. x.others j (inl q) in
    let inner : ExprAt m n p.last e = expr_kept e n n p.last p.nodes m same (omega arith) t in
    r k w (invert e)
    (record { base = a.base; count = omega (arith, a.count); nots = λ j lo hi. a.nots j lo (omega arith); frames = stacked_same w n (n + 1) p.nodes m p.frames a.base same (omega arith) a.frames })
    (omega arith, (x.first, rw x.second inner.0, rw x.second inner.1))

-- what `invert` joins
pub inverted : (R : Frame → ℕ → Option Node → Type 0) → ((f : Frame) (x : ℕ) (y : Option Node) → R f x y → JoinsNot f x y) → {p p' : Parser} → Joined R p p' → Inverts p p'
inverted R h (ends p s) = no_not p (λ c z. h _ _ _ (s c z))
inverted R h (joins p p' c m x z j w r) =
    let k = h _ _ _ j in
    one_not p p' m c z k.0 (subst (Wrote p.nodes m p.used) k.1 w) (inverted R h r)
