-- What is joined by `close`.
use Rattle.std.proofs.Common.{◌≡◌, ℕ, ◌+◌, List, [], ◌∷◌, Option, sym, ◌∙◌, subst, inl, arith}
use Rattle.syntax.specs.Ast.{Stmt, skip, seq}
use Rattle.syntax.specs.Parser.{Outer, top, then_in, else_in, repeat_in, closed, Block}
use Rattle.syntax.specs.Tree.{HoldsStmt}
use Rattle.syntax.specs.Frames.{StmtAt, frame, Rows, Outers, Blocked, Wrote, Same, Here, Closes, added, Adds, Joined, ends, joins, JoinsStatement}
use Rattle.syntax.specs.declared.frame.Frame.{Frame}
use Rattle.syntax.specs.declared.frame.Frame.TheVariants.{Done}
use Rattle.syntax.specs.declared.state.Parser.{Parser}
use Rattle.syntax.specs.declared.node.Node.{Node}
use Rattle.syntax.specs.declared.node.Node.TheVariants.{Skip, Seq}
use Rattle.syntax.proofs.Cells.{stmt_kept, blocked_same, frames_untouched}

-- a frame at an index that is known otherwise
pub frame_at : {f : Frame} (s : List Frame) (b c : ℕ) → b ≡ c → frame s b ≡ f → frame s c ≡ f
frame_at {f} s b c z h = subst (λ (i : ℕ). frame s i ≡ f) z h

-- what is around a block begins with a frame of its own
top_outer : (k : Outer) (m : List ℕ) (s : List Frame) (n d c z : ℕ) → Outers m n s d k → d ≡ c + 1 → frame s c ≡ Done z → ⊥
unfolding Outers
top_outer top m s n d c z x e k = omega arith
top_outer (then_in y acc o) m s n d c z x e k = let w = frame_at s x.0 c (omega (arith, x.3)) x.4 in cc
top_outer (else_in y t acc o) m s n d c z x e k = let w = frame_at s x.0 c (omega (arith, x.4)) x.5 in cc
top_outer (repeat_in i acc o) m s n d c z x e k = let w = frame_at s x.0 c (omega (arith, x.2)) x.3 in cc

-- a part of the innermost block is closed, up to the statement that was read last
abbrev Closing : (p p' : Parser) → Type 0
Closing p p' = (b : Block) (t : Stmt) → Here p b → StmtAt p.nodes p.used p.last t → Outers p'.nodes p'.used p'.frames p'.depth b.1 × StmtAt p'.nodes p'.used p'.last (closed b.0 t)

-- the frame on top is no statement
no_statement : (p : Parser) → ((c : ℕ) → p.depth ≡ c + 1 → (z : ℕ) → frame p.frames c ≡ Done z → ⊥) → Closing p p
unfolding Rows closed
no_statement p h ([], k) t a x = (subst (λ (i : ℕ). Outers p.nodes p.used p.frames i k) (sym a.rows) a.outer, x)
no_statement p h (s ∷ ss, k) t a x = let r = a.rows in absurd (h r.0 (omega (arith, r.2)) r.1 r.3)

-- one statement more
one_statement : (p p' : Parser) (m : List ℕ) (c z : ℕ) → p.depth ≡ c + 1 → frame p.frames c ≡ Done z → Wrote p.nodes m p.used (Seq z p.last) → Closing (added m (record p { depth = c })) p' → Closing p p'
unfolding Rows closed HoldsStmt
one_statement p p' m c z e k w f ([], o) t a x =
    let at : p.depth ≡ a.base = a.rows in
    absurd (top_outer o p.nodes p.frames p.used p.depth c z (subst (λ (i : ℕ). Outers p.nodes p.used p.frames i o) (sym at) a.outer) e k)
one_statement p p' m c z e k w f (u ∷ ss, o) t a x =
    let n = p.used in
    let r = a.rows in
    let here : r.0 ≡ c = omega (arith, r.2) in
    let both : Done z ≡ Done r.1 = sym k ∙ frame_at p.frames r.0 c here r.3 in
    let at : r.1 ≡ z = cc in
    let same : Same n p.nodes m = λ j q. w.others j (inl q) in
    let first : StmtAt m n z u = stmt_kept u n n z p.nodes m same (omega arith) (subst (λ (i : ℕ). StmtAt p.nodes n i u) at r.4) in
    let second : StmtAt m n p.last t = stmt_kept t n n p.last p.nodes m same (omega arith) x in
    let rest : Blocked (ss, o) p.nodes p.frames n c = record { base = a.base; rows = subst (λ (i : ℕ). Rows p.nodes n p.frames a.base i ss) here r.5; outer = a.outer } in
    f (ss, o) (seq u t) (blocked_same p.nodes m p.frames p.frames n (n + 1) same (omega arith) (ss, o) c (frames_untouched c p.frames) rest)
    (omega arith, (w.first, rw w.second first.0, rw w.second first.1, rw w.third second.0, rw w.third second.1))

closing : (R : Frame → ℕ → Option Node → Type 0) → ((f : Frame) (x : ℕ) (y : Option Node) → R f x y → JoinsStatement f x y) → {p p' : Parser} → Joined R p p' → Closing p p'
closing R h (ends p s) = no_statement p (λ c z. h _ _ _ (s c z))
closing R h (joins p p' c m x z j w r) =
    let k = h _ _ _ j in
    one_statement p p' m c k.0 z k.1 (subst (Wrote p.nodes m p.used) k.2 w) (closing R h r)

-- what `close` joins, after a skip
pub closes : (R : Frame → ℕ → Option Node → Type 0) → ((f : Frame) (x : ℕ) (y : Option Node) → R f x y → JoinsStatement f x y) → {p p₁ p' : Parser} → Adds Skip p p₁ → Joined R p₁ p' → Closes p p'
unfolding HoldsStmt
closes R h {p} {p₁} {p'} a r b x =
    let same : Same p.used p.nodes p₁.nodes = λ j q. a.wrote.others j (inl q) in
    let on : Closing (added p₁.nodes p) p' = subst (λ (q : Parser). Closing q p') a.is (closing R h r) in
    on b skip (blocked_same p.nodes p₁.nodes p.frames p.frames p.used (p.used + 1) same (omega arith) b p.depth (frames_untouched p.depth p.frames) x) (omega arith, a.wrote.first)
