-- The parser's stack as frames, over trees that are laid out in nodes. Assumes nothing: these are definitions.
use Rattle.std.specs.Prelude.{◌≡◌, ℕ, suc, ◌+◌, ◌*◌, ◌<◌, ◌≤◌, ◌⊎◌, List, [], ◌∷◌, Some, None, Option, slice_index, slice_index_or, slice_set}
use Rattle.base.specs.declared.Op.{Op}
use Rattle.base.specs.Ops.{op_code}
use Rattle.syntax.specs.Ast.{Expr, Stmt, skip}
use Rattle.syntax.specs.Grammar.{strength}
use Rattle.syntax.specs.Parser.{Outer, top, then_in, else_in, repeat_in, Block, Goal, assign_to, condition_in, delay_in, Pending, whole, right_of, bracket, climb, inverts, closed}
use Rattle.syntax.specs.Tree.{cell, Holds, HoldsStmt}
use Rattle.syntax.specs.declared.frame.Frame.{Frame}
use Rattle.syntax.specs.declared.frame.Frame.TheVariants.{Bracket, RightOf, Not, Done, ThenIn, ElseIn, RepeatIn, AssignTo, ConditionIn, DelayIn}
use Rattle.syntax.specs.declared.state.Parser.{Parser}
use Rattle.syntax.specs.declared.node.Node.{Node}
use Rattle.syntax.specs.declared.node.Node.TheVariants.{Literal, Variable, Not as NotNode, Binary, Skip, Assign, Seq, Branch, Repeat, Delay, Setting, Broken}

-- a tree in the lowest n nodes, at node x
abbrev pub ExprAt : (m : List ℕ) (n x : ℕ) → Expr → Type 0
ExprAt m n x e = (x < n) × Holds m x e

abbrev pub StmtAt : (m : List ℕ) (n x : ℕ) → Stmt → Type 0
StmtAt m n x s = (x < n) × HoldsStmt m x s

-- frame i
abbrev pub frame : List Frame → ℕ → Frame
frame s i = slice_index_or s i Bracket

-- the frames from c up to d are nots
abbrev pub Nots : List Frame → ℕ → ℕ → Type 0
Nots s c d = (j : ℕ) → c ≤ j → j < d → frame s j ≡ Not

-- the frames from c up to d are finished statements, the last one first
unfoldable pub Rows : List ℕ → ℕ → List Frame → ℕ → ℕ → List Stmt → Type 0
Rows m n s c d [] = d ≡ c
Rows m n s c d (t ∷ ss) = (b : ℕ) × (x : ℕ) × (d ≡ suc b) × (frame s b ≡ Done x) × StmtAt m n x t × Rows m n s c b ss

-- the lowest d frames are the blocks around the innermost one
unfoldable pub Outers : List ℕ → ℕ → List Frame → ℕ → Outer → Type 0
Outers m n s d top = d ≡ 0
Outers m n s d (then_in e acc k) = (b : ℕ) × (c : ℕ) × (x : ℕ) × (d ≡ suc b) × (frame s b ≡ ThenIn x) × Rows m n s c b acc × Outers m n s c k × ExprAt m n x e
Outers m n s d (else_in e t acc k) = (b : ℕ) × (c : ℕ) × (x : ℕ) × (y : ℕ) × (d ≡ suc b) × (frame s b ≡ ElseIn x y) × Rows m n s c b acc × Outers m n s c k × ExprAt m n x e × StmtAt m n y t
Outers m n s d (repeat_in j acc k) = (b : ℕ) × (c : ℕ) × (d ≡ suc b) × (frame s b ≡ RepeatIn j) × Rows m n s c b acc × Outers m n s c k

-- the lowest d frames are the blocks that are being read
pub record Blocked (b : Block) (m : List ℕ) (s : List Frame) (n d : ℕ) : Type 0 where
  pub base : ℕ
  pub rows : Rows m n s base d b.0
  pub outer : Outers m n s base b.1

-- the same, and on top a frame
pub record Topped (f : Frame) (b : Block) (m : List ℕ) (s : List Frame) (n d : ℕ) : Type 0 where
  pub below : ℕ
  pub size : d ≡ suc below
  pub is : frame s below ≡ f
  pub block : Blocked b m s n below

-- the frame that says what an expression is for
abbrev pub Aims : List ℕ → ℕ → List Frame → ℕ → Goal → Type 0
Aims m n s d (assign_to i b) = Topped (AssignTo i) b m s n d
Aims m n s d (condition_in b) = Topped ConditionIn b m s n d
Aims m n s d (delay_in out counter b) = Topped (DelayIn out counter) b m s n d

-- the lowest d frames are what waits for an operand
unfoldable pub Stacked : List ℕ → ℕ → List Frame → ℕ → Pending → Type 0
Stacked m n s d (whole g) = Aims m n s d g
Stacked m n s d (bracket k p) = (c : ℕ) × (d ≡ suc (c + k)) × (frame s (c + k) ≡ Bracket) × Nots s c (c + k) × Stacked m n s c p
Stacked m n s d (right_of o a p) = (c : ℕ) × (x : ℕ) × (d ≡ suc c) × (frame s c ≡ RightOf o x) × ExprAt m n x a × Stacked m n s c p

-- the four numbers of node i are written, and nothing else changes
pub record Written (m m' : List ℕ) (i a b c d : ℕ) : Type 0 where
  pub first : cell m' i 0 ≡ a
  pub second : cell m' i 1 ≡ b
  pub third : cell m' i 2 ≡ c
  pub fourth : cell m' i 3 ≡ d
  pub others : (j : ℕ) → (j < 4 * i) ⊎ (4 * i + 4 ≤ j) → slice_index m' j ≡ slice_index m j

-- node i is written
abbrev pub Wrote : (m m' : List ℕ) (i : ℕ) → Node → Type 0
Wrote m m' i (Literal n) = Written m m' i 0 n 0 0
Wrote m m' i (Variable v) = Written m m' i 1 v 0 0
Wrote m m' i (NotNode a) = Written m m' i 2 a 0 0
Wrote m m' i (Binary o a b) = Written m m' i 3 (op_code o) a b
Wrote m m' i Skip = Written m m' i 4 0 0 0
Wrote m m' i (Assign v a) = Written m m' i 5 v a 0
Wrote m m' i (Seq a b) = Written m m' i 6 a b 0
Wrote m m' i (Branch a b c) = Written m m' i 7 a b c
Wrote m m' i (Repeat n a) = Written m m' i 8 n a 0
Wrote m m' i (Delay out counter a) = Written m m' i 9 out counter a
Wrote m m' i (Setting a preset) = Written m m' i 10 a preset 0
Wrote m m' i Broken = Written m m' i 11 0 0 0

-- the lowest n nodes are the same, and the lowest d frames
abbrev pub Same : ℕ → List ℕ → List ℕ → Type 0
Same n m m' = (j : ℕ) → j < 4 * n → slice_index m' j ≡ slice_index m j

abbrev pub SameFrames : ℕ → List Frame → List Frame → Type 0
SameFrames d s s' = (j : ℕ) → j < d → frame s' j ≡ frame s j

-- the frames are what waits, and the node read last is the operand
pub record Operands (w : Pending) (e : Expr) (p : Parser) : Type 0 where
  pub frames : Stacked p.nodes p.used p.frames p.depth w
  pub tree : ExprAt p.nodes p.used p.last e

-- the nodes and frames are those of the parser's climb
abbrev pub Climbs : ℕ → (p p' : Parser) → Type 0
Climbs l p p' = (w : Pending) (e : Expr) → Operands w e p → Operands (climb l w e).0 (climb l w e).1 p'

-- an operand comes next, after k nots
pub record Awaits (k : ℕ) (w : Pending) (p : Parser) : Type 0 where
  pub base : ℕ
  pub count : p.depth ≡ base + k
  pub nots : Nots p.frames base p.depth
  pub frames : Stacked p.nodes p.used p.frames base w

-- the nots before an operand are done
abbrev pub Inverts : (p p' : Parser) → Type 0
Inverts p p' = (k : ℕ) (w : Pending) (e : Expr) → Awaits k w p → ExprAt p.nodes p.used p.last e → Operands w (inverts k e) p'

-- a block, laid out
abbrev pub Here : Parser → Block → Type 0
Here p b = Blocked b p.nodes p.frames p.used p.depth

-- the innermost block is closed
abbrev pub Closes : (p p' : Parser) → Type 0
Closes p p' = (b : Block) → Here p b → Outers p'.nodes p'.used p'.frames p'.depth b.1 × StmtAt p'.nodes p'.used p'.last (closed b.0 skip)

-- a frame more, or a node more, with its numbers among these
abbrev pub pushed : Frame → Parser → Parser
pushed f p = record p { frames = slice_set p.frames p.depth f; depth = p.depth + 1 }

abbrev pub added : List ℕ → Parser → Parser
added m p = record p { nodes = m; used = p.used + 1; last = p.used }

-- a node is added
pub record Adds (x : Node) (p p' : Parser) : Type 0 where
  pub is : p' ≡ added p'.nodes p
  pub wrote : Wrote p.nodes p'.nodes p.used x

-- the frame on top and the node read last become a node, as long as R joins them
pub data Joined (R : Frame → ℕ → Option Node → Type 0) : Parser → Parser → Type 0 where
  ends : (p : Parser) → ((c : ℕ) → p.depth ≡ c + 1 → R (frame p.frames c) p.last None) → Joined R p p
  joins : (p p' : Parser) (c : ℕ) (m : List ℕ) (x : Node) → p.depth ≡ c + 1 → R (frame p.frames c) p.last (Some x) → Wrote p.nodes m p.used x → Joined R (added m (record p { depth = c })) p' → Joined R p p'

-- what joins: an operator that binds tightly enough with its right operand, a not with its operand, a statement with those after it
abbrev pub JoinsOperator : ℕ → Frame → ℕ → Option Node → Type 0
JoinsOperator l f x (Some y) = (o : Op) × (a : ℕ) × (f ≡ RightOf o a) × (strength o ≤ l) × (y ≡ Binary o a x)
JoinsOperator l f x None = (o : Op) (a : ℕ) → f ≡ RightOf o a → l < strength o

abbrev pub JoinsNot : Frame → ℕ → Option Node → Type 0
JoinsNot f x (Some y) = (f ≡ Not) × (y ≡ NotNode x)
JoinsNot f x None = f ≡ Not → ⊥

abbrev pub JoinsStatement : Frame → ℕ → Option Node → Type 0
JoinsStatement f x (Some y) = (s : ℕ) × (f ≡ Done s) × (y ≡ Seq s x)
JoinsStatement f x None = (s : ℕ) → f ≡ Done s → ⊥
