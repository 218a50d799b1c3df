-- Code made one part after another. Assumes nothing.
use Rattle.std.proofs.Common.{◌≡◌, ℕ, suc, ◌+◌, ◌-◌, List, [], ◌∷◌, ◌++◌, length, set, sym, ap, ◌∙◌, append_assoc, append-nil, arith, length-append, length-set}
use Rattle.std.proofs.Math.Seq.{set-append_seam}
use Rattle.compiler.specs.Instr.{Instr, jump, jump_if_zero, enter, back, stop}
use Rattle.compiler.specs.Emitted.{Appends}

infixr 30 ◌then◌
-- no code
pub appends_none : (m : List Instr) → Appends [] m m
appends_none m = record { added = λ h. sym (append-nil m) }

-- one after another
pub ◌then◌ : {c d m m₁ m₂ : List Instr} → Appends c m m₁ → Appends d m₁ m₂ → Appends (c ++ d) m m₂
◌then◌ {c} {d} {m} {m₁} {m₂} p q =
    record {
      added = λ h.
          let e = p.added (omega (arith, length-append c d)) in
          q.added (omega (arith, ap length e, length-append m c, length-append c d)) ∙ ap (λ l. l ++ d) e ∙ append_assoc m c d;
    }

-- an instruction is written where room was left for it
filled : (c d : List Instr) (i : Instr) {n n' : List Instr} {place : ℕ} → n ≡ c ++ stop ∷ d → place ≡ length c → n' ≡ set n place i → n' ≡ c ++ i ∷ d
filled c d i is here e = e ∙ (λ j. set (is j) (here j) i) ∙ set-append_seam c stop d i

-- a choice, whose jumps are written once it is known how far they go
pub appends_branch : (e x y : List Instr) {m m₁ m₂ m₃ m₄ m₅ m₆ m₇ : List Instr} {test join past over : ℕ} →
    Appends e m m₁ → test ≡ length m₁ → Appends (stop ∷ []) m₁ m₂ → Appends x m₂ m₃ → join ≡ length m₃ → Appends (stop ∷ []) m₃ m₄ →
    past ≡ length m₄ - test - 1 → m₅ ≡ set m₄ test (jump_if_zero past) → Appends y m₅ m₆ → over ≡ length m₆ - join - 1 → m₇ ≡ set m₆ join (jump over) →
    Appends (e ++ (jump_if_zero (suc (length x)) ∷ (x ++ (jump (length y) ∷ y)))) m m₇
appends_branch e x y {m} {m₁} {m₂} {m₃} {m₄} {m₅} {m₆} {m₇} {test} {join} {past} {over} a test_is r b join_is s past_is t c over_is u =
    record {
      added = λ h.
          let z : Instr = jump_if_zero (suc (length x)) in
          let k : Instr = jump (length y) in
          let long : length (e ++ (z ∷ (x ++ (k ∷ y)))) ≡ length e + length x + length y + 2 = simp length-append (omega arith) in
          let e₁ = a.added (omega arith) in
          let l₁ = ap length e₁ ∙ length-append m e in
          let e₂ = r.added (omega arith) in
          let l₂ = ap length e₂ ∙ length-append m₁ (stop ∷ []) in
          let e₃ = b.added (omega arith) in
          let l₃ = ap length e₃ ∙ length-append m₂ x in
          let e₄ = s.added (omega arith) in
          let l₄ = ap length e₄ ∙ length-append m₃ (stop ∷ []) in
          let here : past ≡ suc (length x) = omega arith in
          let f₄ : m₄ ≡ m₁ ++ stop ∷ (x ++ stop ∷ []) = rw (e₄, e₃, e₂) (simp append_assoc) in
          let e₅ : m₅ ≡ m₁ ++ z ∷ (x ++ stop ∷ []) = filled m₁ (x ++ stop ∷ []) z f₄ test_is (t ∙ ap (λ n. set m₄ test (jump_if_zero n)) here) in
          let l₅ = ap length t ∙ length-set m₄ test _ in
          let e₆ = c.added (omega arith) in
          let l₆ = ap length e₆ ∙ length-append m₅ y in
          let there : over ≡ length y = omega arith in
          let f₆ : m₆ ≡ (m₁ ++ z ∷ x) ++ stop ∷ y = rw (e₆, e₅) (simp append_assoc) in
          let joined : join ≡ length (m₁ ++ z ∷ x) = omega (arith, length-append m₁ (z ∷ x)) in
          let e₇ : m₇ ≡ (m₁ ++ z ∷ x) ++ k ∷ y = filled (m₁ ++ z ∷ x) y k f₆ joined (u ∙ ap (λ n. set m₆ join (jump n)) there) in
          rw (e₇, e₁) (simp append_assoc);
    }

-- a repetition, whose beginning is written last
pub appends_repeat : (n : ℕ) (x : List Instr) {m m₁ m₂ m₃ m₄ : List Instr} {head size : ℕ} →
    head ≡ length m → Appends (stop ∷ []) m m₁ → Appends x m₁ m₂ → size ≡ length m₂ - head - 1 + 1 → m₃ ≡ set m₂ head (enter n size) → Appends (back size ∷ []) m₃ m₄ →
    Appends (enter n (suc (length x)) ∷ (x ++ back (suc (length x)) ∷ [])) m m₄
appends_repeat n x {m} {m₁} {m₂} {m₃} {m₄} {head} {size} head_is r b size_is t q =
    record {
      added = λ h.
          let long = length-append x (back (suc (length x)) ∷ []) in
          let e₁ = r.added (omega arith) in
          let l₁ = ap length e₁ ∙ length-append m (stop ∷ []) in
          let e₂ = b.added (omega arith) in
          let l₂ = ap length e₂ ∙ length-append m₁ x in
          let here : size ≡ suc (length x) = omega arith in
          let f₂ : m₂ ≡ m ++ stop ∷ x = rw (e₂, e₁) (simp append_assoc) in
          let e₃ : m₃ ≡ m ++ enter n size ∷ x = filled m x (enter n size) f₂ head_is t in
          let l₃ = ap length t ∙ length-set m₂ head _ in
          let e₄ = q.added (omega arith) in
          rw (e₄, e₃, here) (simp append_assoc);
    }
