-- A node as it is read from its four numbers: what it is, and its children, which stand below it. Assumes nothing: these are definitions.
use Rattle.std.specs.Prelude.{◌≡◌, ℕ, ◌<◌, cond, ◌&&◌, List, ◌==◌, nat_lt}
use Rattle.base.specs.Ops.{op_of}
use Rattle.syntax.specs.Ast.{Expr, lit, var, invert, binary, Stmt, skip, assign, seq, branch, repeat, delay}
use Rattle.syntax.specs.Tree.{cell, Holds, HoldsSetting, HoldsStmt}
use Rattle.syntax.specs.declared.node.Node.{Node}
use Rattle.syntax.specs.declared.node.Node.TheVariants.{Literal, Variable, Not, Binary, Skip, Assign, Seq, Branch, Repeat, Delay, Setting, Broken}

-- the node of four numbers at an index: its children stand below it
abbrev pub node_of : (i kind a b c : ℕ) → Node
node_of i k a b c =
    cond (k == 0) (Literal a) (cond (k == 1) (Variable a) (cond (k == 2 && nat_lt a i) (Not a) (cond (k == 3 && nat_lt a 8 && nat_lt b i && nat_lt c i) (Binary (op_of a) b c) (cond (k == 4) Skip (
    cond (k == 5 && nat_lt b i) (Assign a b) (cond (k == 6 && nat_lt a i && nat_lt b i) (Seq a b) (cond (k == 7 && nat_lt a i && nat_lt b i && nat_lt c i) (Branch a b c) (cond (k == 8 && nat_lt b i) (Repeat a b) (
    cond (k == 9 && nat_lt c i) (Delay a b c) (cond (k == 10 && nat_lt a i) (Setting a b) Broken))))))))))

-- the children stand below an index
abbrev pub Lower : ℕ → Node → Type 0
Lower i (Literal n) = Unit {0}
Lower i (Variable n) = Unit {0}
Lower i (Not a) = a < i
Lower i (Binary o a b) = (a < i) × (b < i)
Lower i Skip = Unit {0}
Lower i (Assign v a) = a < i
Lower i (Seq a b) = (a < i) × (b < i)
Lower i (Branch a b c) = (a < i) × (b < i) × (c < i)
Lower i (Repeat n a) = a < i
Lower i (Delay x y a) = a < i
Lower i (Setting a n) = a < i
Lower i Broken = Unit {0}

-- a node as it is read stands for an expression, or a statement
abbrev pub IsExpr : List ℕ → Node → Expr → Type 0
IsExpr m (Literal n) e = e ≡ lit n
IsExpr m (Variable n) e = e ≡ var n
IsExpr m (Not a) e = (x : Expr) × (e ≡ invert x) × Holds m a x
IsExpr m (Binary o a b) e = (x : Expr) × (y : Expr) × (e ≡ binary o x y) × Holds m a x × Holds m b y
IsExpr m Skip e = ⊥
IsExpr m (Assign v a) e = ⊥
IsExpr m (Seq a b) e = ⊥
IsExpr m (Branch a b c) e = ⊥
IsExpr m (Repeat n a) e = ⊥
IsExpr m (Delay x y a) e = ⊥
IsExpr m (Setting a n) e = ⊥
IsExpr m Broken e = ⊥

abbrev pub IsStmt : List ℕ → Node → Stmt → Type 0
IsStmt m (Literal n) s = ⊥
IsStmt m (Variable n) s = ⊥
IsStmt m (Not a) s = ⊥
IsStmt m (Binary o a b) s = ⊥
IsStmt m Skip s = s ≡ skip
IsStmt m (Assign v a) s = (e : Expr) × (s ≡ assign v e) × Holds m a e
IsStmt m (Seq a b) s = (x : Stmt) × (y : Stmt) × (s ≡ seq x y) × HoldsStmt m a x × HoldsStmt m b y
IsStmt m (Branch a b c) s = (e : Expr) × (x : Stmt) × (y : Stmt) × (s ≡ branch e x y) × Holds m a e × HoldsStmt m b x × HoldsStmt m c y
IsStmt m (Repeat n a) s = (x : Stmt) × (s ≡ repeat n x) × HoldsStmt m a x
IsStmt m (Delay x y a) s = (e : Expr) × (n : ℕ) × (s ≡ delay x y e n) × HoldsSetting m a e n
IsStmt m (Setting a n) s = ⊥
IsStmt m Broken s = ⊥

-- a delay's condition and length
abbrev pub IsSetting : List ℕ → Node → Expr → ℕ → Type 0
IsSetting m (Literal n) e k = ⊥
IsSetting m (Variable n) e k = ⊥
IsSetting m (Not a) e k = ⊥
IsSetting m (Binary o a b) e k = ⊥
IsSetting m Skip e k = ⊥
IsSetting m (Assign v a) e k = ⊥
IsSetting m (Seq a b) e k = ⊥
IsSetting m (Branch a b c) e k = ⊥
IsSetting m (Repeat n a) e k = ⊥
IsSetting m (Delay x y a) e k = ⊥
IsSetting m (Setting a n) e k = (k ≡ n) × Holds m a e
IsSetting m Broken e k = ⊥

-- a node read at an index: its four numbers say what it is, and where it holds a tree it is that tree's
pub record Decoded (m : List ℕ) (i : ℕ) (r : Node) : Type 0 where
  pub is : r ≡ node_of i (cell m i 0) (cell m i 1) (cell m i 2) (cell m i 3)
  pub lower : Lower i r
  pub expr : (e : Expr) → Holds m i e → IsExpr m r e
  pub stmt : (s : Stmt) → HoldsStmt m i s → IsStmt m r s
  pub setting : (e : Expr) (n : ℕ) → HoldsSetting m i e n → IsSetting m r e n
