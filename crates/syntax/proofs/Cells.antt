-- Writes to nodes and frames, and what they leave.
use Rattle.std.proofs.Common.{◌≡◌, ℕ, ◌+◌, ◌*◌, ◌<◌, ◌≤◌, List, [], ◌∷◌, length, get_or, set, refl, ap, ◌∙◌, add-zero, arith, length-set, get_or-set_other, get_or-set_same}
use Rattle.syntax.specs.Ast.{Expr, lit, var, invert, binary, Stmt, skip, assign, seq, branch, repeat, delay}
use Rattle.syntax.specs.Parser.{Outer, top, then_in, else_in, repeat_in, Block, assign_to, condition_in, delay_in, Pending, whole, right_of, bracket}
use Rattle.syntax.specs.Tree.{cell, Holds, HoldsSetting, HoldsStmt}
use Rattle.syntax.specs.Frames.{ExprAt, StmtAt, frame, Rows, Outers, Blocked, Topped, Stacked, Written, Same, SameFrames}
use Rattle.syntax.specs.declared.frame.Frame.{Frame}
use Rattle.syntax.specs.declared.frame.Frame.TheVariants.{Bracket, AssignTo, ConditionIn, DelayIn}

pub written : (m : List ℕ) (i a b c d : ℕ) → 4 * i + 4 ≤ length m → Written m (set (set (set (set m (4 * i) a) (4 * i + 1) b) (4 * i + 2) c) (4 * i + 3) d) i a b c d
written m i a b c d h =
    let z = add-zero (4 * i) in
    let m₁ = set m (4 * i) a in
    let m₂ = set m₁ (4 * i + 1) b in
    let m₃ = set m₂ (4 * i + 2) c in
    let long₁ : length m₁ ≡ length m = simp length-set in
    let long₂ : length m₂ ≡ length m = simp length-set in
    let long₃ : length m₃ ≡ length m = simp length-set in
    record {
      first = get_or-set_other m₃ (4 * i + 3) (4 * i + 0) d 0 (omega arith) ∙ get_or-set_other m₂ (4 * i + 2) (4 * i + 0) c 0 (omega arith) ∙ get_or-set_other m₁ (4 * i + 1) (4 * i + 0) b 0 (omega arith) ∙ ap (λ n. get_or m₁ n 0) z ∙ get_or-set_same m (4 * i) a 0 (omega arith);
      second = get_or-set_other m₃ (4 * i + 3) (4 * i + 1) d 0 (omega arith) ∙ get_or-set_other m₂ (4 * i + 2) (4 * i + 1) c 0 (omega arith) ∙ get_or-set_same m₁ (4 * i + 1) b 0 (omega arith);
      third = get_or-set_other m₃ (4 * i + 3) (4 * i + 2) d 0 (omega arith) ∙ get_or-set_same m₂ (4 * i + 2) c 0 (omega arith);
      fourth = get_or-set_same m₃ (4 * i + 3) d 0 (omega arith);
      others = λ j o. get_or-set_other m₃ (4 * i + 3) j d 0 (omega arith) ∙ get_or-set_other m₂ (4 * i + 2) j c 0 (omega arith) ∙ get_or-set_other m₁ (4 * i + 1) j b 0 (omega arith) ∙ get_or-set_other m (4 * i) j a 0 (omega arith);
    }

pub holds_same : (e : Expr) (n i : ℕ) (m m' : List ℕ) → Same n m m' → i < n → Holds m i e → Holds m' i e
unfolding Holds
holds_same (lit k) n i m m' s h x = (s (4 * i + 0) (omega arith) ∙ x.0, s (4 * i + 1) (omega arith) ∙ x.1)
holds_same (var k) n i m m' s h x = (s (4 * i + 0) (omega arith) ∙ x.0, s (4 * i + 1) (omega arith) ∙ x.1)
holds_same (invert e) n i m m' s h x =
    let q = s (4 * i + 1) (omega arith) in
    (s (4 * i + 0) (omega arith) ∙ x.0, rw q x.1, rw q (holds_same e n (cell m i 1) m m' s (omega (arith, x.1)) x.2))
holds_same (binary o a b) n i m m' s h x =
    let q₁ = s (4 * i + 1) (omega arith) in
    let q₂ = s (4 * i + 2) (omega arith) in
    let q₃ = s (4 * i + 3) (omega arith) in
    (s (4 * i + 0) (omega arith) ∙ x.0, q₁ ∙ x.1, rw q₂ x.2, rw q₂ (holds_same a n (cell m i 2) m m' s (omega (arith, x.2)) x.3), rw q₃ x.4, rw q₃ (holds_same b n (cell m i 3) m m' s (omega (arith, x.4)) x.5))

pub holds_stmt_same : (e : Stmt) (n i : ℕ) (m m' : List ℕ) → Same n m m' → i < n → HoldsStmt m i e → HoldsStmt m' i e
unfolding HoldsStmt
holds_stmt_same skip n i m m' s h x = s (4 * i + 0) (omega arith) ∙ x
holds_stmt_same (assign v e) n i m m' s h x =
    let q₂ = s (4 * i + 2) (omega arith) in
    (s (4 * i + 0) (omega arith) ∙ x.0, s (4 * i + 1) (omega arith) ∙ x.1, rw q₂ x.2, rw q₂ (holds_same e n (cell m i 2) m m' s (omega (arith, x.2)) x.3))
holds_stmt_same (seq a b) n i m m' s h x =
    let q₁ = s (4 * i + 1) (omega arith) in
    let q₂ = s (4 * i + 2) (omega arith) in
    (s (4 * i + 0) (omega arith) ∙ x.0, rw q₁ x.1, rw q₁ (holds_stmt_same a n (cell m i 1) m m' s (omega (arith, x.1)) x.2), rw q₂ x.3, rw q₂ (holds_stmt_same b n (cell m i 2) m m' s (omega (arith, x.3)) x.4))
holds_stmt_same (branch e a b) n i m m' s h x =
    let q₁ = s (4 * i + 1) (omega arith) in
    let q₂ = s (4 * i + 2) (omega arith) in
    let q₃ = s (4 * i + 3) (omega arith) in (
      s (4 * i + 0) (omega arith) ∙ x.0,
      rw q₁ x.1,
      rw q₁ (holds_same e n (cell m i 1) m m' s (omega (arith, x.1)) x.2),
      rw q₂ x.3,
      rw q₂ (holds_stmt_same a n (cell m i 2) m m' s (omega (arith, x.3)) x.4),
      rw q₃ x.5,
      rw q₃ (holds_stmt_same b n (cell m i 3) m m' s (omega (arith, x.5)) x.6),
    )
holds_stmt_same (repeat k a) n i m m' s h x =
    let q₂ = s (4 * i + 2) (omega arith) in
    (s (4 * i + 0) (omega arith) ∙ x.0, s (4 * i + 1) (omega arith) ∙ x.1, rw q₂ x.2, rw q₂ (holds_stmt_same a n (cell m i 2) m m' s (omega (arith, x.2)) x.3))
holds_stmt_same (delay o p e k) n i m m' s h x =
    let q₃ = s (4 * i + 3) (omega arith) in
    let low : cell m i 3 < n = omega (arith, x.3) in
    (s (4 * i + 0) (omega arith) ∙ x.0, s (4 * i + 1) (omega arith) ∙ x.1, s (4 * i + 2) (omega arith) ∙ x.2, rw q₃ x.3, rw q₃ (setting_same e k n (cell m i 3) m m' s low x.4))
  where
    setting_same : (e : Expr) (k n i : ℕ) (m m' : List ℕ) → Same n m m' → i < n → HoldsSetting m i e k → HoldsSetting m' i e k
    setting_same e k n i m m' s h x =
        let q₁ = s (4 * i + 1) (omega arith) in
        (s (4 * i + 0) (omega arith) ∙ x.0, rw q₁ x.1, rw q₁ (holds_same e n (cell m i 1) m m' s (omega (arith, x.1)) x.2), s (4 * i + 2) (omega arith) ∙ x.3)

-- a tree stays as nodes are added
pub expr_kept : (e : Expr) (n n' x : ℕ) (m m' : List ℕ) → Same n m m' → n ≤ n' → ExprAt m n x e → ExprAt m' n' x e
expr_kept e n n' x m m' s h a = (omega (arith, a.0), holds_same e n x m m' s a.0 a.1)

pub stmt_kept : (t : Stmt) (n n' x : ℕ) (m m' : List ℕ) → Same n m m' → n ≤ n' → StmtAt m n x t → StmtAt m' n' x t
stmt_kept t n n' x m m' s h a = (omega (arith, a.0), holds_stmt_same t n x m m' s a.0 a.1)

-- nothing is written
pub untouched : (n : ℕ) (m : List ℕ) → Same n m m
untouched n m j h = refl

pub frames_untouched : (d : ℕ) (s : List Frame) → SameFrames d s s
frames_untouched d s j h = refl

-- a frame is written
pub frame_new : (s : List Frame) (d : ℕ) (f : Frame) → d < length s → frame (set s d f) d ≡ f
frame_new s d f h = get_or-set_same s d f Bracket h

pub frames_below : (s : List Frame) (d : ℕ) (f : Frame) → SameFrames d s (set s d f)
frames_below s d f j h = get_or-set_other s d j f Bracket (omega arith)

pub rows_low : (m : List ℕ) (n : ℕ) (s : List Frame) (c d : ℕ) (ss : List Stmt) → Rows m n s c d ss → c ≤ d
unfolding Rows
rows_low m n s c d [] x = omega arith
rows_low m n s c d (t ∷ ss) x = omega (arith, x.2, rows_low m n s c x.0 ss x.5)

-- the lowest nodes and frames are the same
module _ (m m' : List ℕ) (s s' : List Frame) (n n' : ℕ) (same : Same n m m') (more : n ≤ n') where
  rows_same : (ss : List Stmt) (c d : ℕ) → SameFrames d s s' → Rows m n s c d ss → Rows m' n' s' c d ss
  unfolding Rows
  rows_same [] c d f x = x
  rows_same (t ∷ ss) c d f x =
      let z = x.2 in
      (x.0, x.1, z, f x.0 (omega arith) ∙ x.3, stmt_kept t n n' x.1 m m' same more x.4, rows_same ss c x.0 (λ j h. f j (omega arith)) x.5)

  outers_same : (k : Outer) (d : ℕ) → SameFrames d s s' → Outers m n s d k → Outers m' n' s' d k
  unfolding Outers
  outers_same top d f x = x
  outers_same (then_in e acc k) d f x =
      let z = x.3 in
      let low = rows_low m n s x.1 x.0 acc x.5 in
      (x.0, x.1, x.2, z, f x.0 (omega arith) ∙ x.4, rows_same acc x.1 x.0 (λ j h. f j (omega arith)) x.5, outers_same k x.1 (λ j h. f j (omega arith)) x.6, expr_kept e n n' x.2 m m' same more x.7)
  outers_same (else_in e t acc k) d f x =
      let z = x.4 in
      let low = rows_low m n s x.1 x.0 acc x.6 in (
        x.0,
        x.1,
        x.2,
        x.3,
        z,
        f x.0 (omega arith) ∙ x.5,
        rows_same acc x.1 x.0 (λ j h. f j (omega arith)) x.6,
        outers_same k x.1 (λ j h. f j (omega arith)) x.7,
        expr_kept e n n' x.2 m m' same more x.8,
        stmt_kept t n n' x.3 m m' same more x.9,
      )
  outers_same (repeat_in i acc k) d f x =
      let z = x.2 in
      let low = rows_low m n s x.1 x.0 acc x.4 in
      (x.0, x.1, z, f x.0 (omega arith) ∙ x.3, rows_same acc x.1 x.0 (λ j h. f j (omega arith)) x.4, outers_same k x.1 (λ j h. f j (omega arith)) x.5)

  pub blocked_same : (b : Block) (d : ℕ) → SameFrames d s s' → Blocked b m s n d → Blocked b m' s' n' d
  blocked_same b d f x =
      let low = rows_low m n s x.base d b.0 x.rows in
      record { base = x.base; rows = rows_same b.0 x.base d f x.rows; outer = outers_same b.1 x.base (λ j h. f j (omega arith)) x.outer }

  topped_same : (t : Frame) (b : Block) (d : ℕ) → SameFrames d s s' → Topped t b m s n d → Topped t b m' s' n' d
  topped_same t b d f g =
      let z = g.size in
      record { below = g.below; size = z; is = f g.below (omega arith) ∙ g.is; block = blocked_same b g.below (λ j h. f j (omega arith)) g.block }

  pub all_same : (p : Pending) (d : ℕ) → SameFrames d s s' → Stacked m n s d p → Stacked m' n' s' d p
  unfolding Stacked
  all_same (whole (assign_to i b)) d f x = topped_same (AssignTo i) b d f x
  all_same (whole (condition_in b)) d f x = topped_same ConditionIn b d f x
  all_same (whole (delay_in i j b)) d f x = topped_same (DelayIn i j) b d f x
  all_same (bracket k p) d f x =
      let z = x.1 in
      (x.0, z, f (x.0 + k) (omega arith) ∙ x.2, λ j lo hi. f j (omega arith) ∙ x.3 j lo hi, all_same p x.0 (λ j h. f j (omega arith)) x.4)
  all_same (right_of o a p) d f x =
      let z = x.2 in
      (x.0, x.1, z, f x.0 (omega arith) ∙ x.3, expr_kept a n n' x.1 m m' same more x.4, all_same p x.0 (λ j h. f j (omega arith)) x.5)

pub stacked_same : (p : Pending) (n n' : ℕ) (m m' : List ℕ) (s : List Frame) (d : ℕ) → Same n m m' → n ≤ n' → Stacked m n s d p → Stacked m' n' s d p
stacked_same p n n' m m' s d q h x = all_same m m' s s n n' q h p d (frames_untouched d s) x

pub frames_same : (p : Pending) (m : List ℕ) (n : ℕ) (s s' : List Frame) (d : ℕ) → SameFrames d s s' → Stacked m n s d p → Stacked m n s' d p
frames_same p m n s s' d q f = all_same m m s s' n n (untouched n m) (omega arith) p d q f
