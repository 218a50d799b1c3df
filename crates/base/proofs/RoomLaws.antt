-- Numbers written into a room one after another. Assumes nothing.
use Rattle.std.proofs.Common.{◌≡◌, ℕ, suc, ◌+◌, ◌<◌, ◌≤◌, ◌≢◌, List, [], ◌∷◌, ◌++◌, length, take, drop, set, sym, refl, ap, ◌∙◌, append_assoc, append-nil, add-zero, arith, length-set, take-append-drop, drop-set-lt}
use native.Mathlib.Numerals.{towards_suc}
use Rattle.std.proofs.lemmas.List.{set_comm, take_more_set}
use Rattle.base.specs.Rooms.{write}

-- one write after another is the write of both
pub write_append : (room : List ℕ) (p : ℕ) (a b : List ℕ) → write room p (a ++ b) ≡ write (write room p a) (p + length a) b
unfolding write
write_append room p [] b = rw add-zero
write_append room p (w ∷ a) b =
    let e : p + suc (length a) ≡ suc p + length a = omega arith in
    rw e (write_append (set room p w) (suc p) a b)

pub length_write : (room : List ℕ) (p : ℕ) (ws : List ℕ) → length (write room p ws) ≡ length room
unfolding write
length_write room p [] = refl
length_write room p (w ∷ ws) = length_write (set room p w) (suc p) ws ∙ length-set room p w

-- two and four writes, as code makes them
pub write_two : (room : List ℕ) (p a b : ℕ) → set (set room p a) (p + 1) b ≡ write room p (a ∷ b ∷ [])
unfolding write
write_two room p a b = simp towards_suc

pub write_four : (room : List ℕ) (p a b c d : ℕ) → set (set (set (set room p a) (p + 1) b) (p + 2) c) (p + 3) d ≡ write room p (a ∷ b ∷ c ∷ d ∷ [])
unfolding write
write_four room p a b c d = simp towards_suc

-- a number written below other writes may be written first
write_set : (room : List ℕ) (p v q : ℕ) (b : List ℕ) → p < q → write (set room p v) q b ≡ set (write room q b) p v
unfolding write
write_set room p v q [] h = refl
write_set room p v q (w ∷ b) h =
    let ne : p ≢ q = omega arith in
    rw (set_comm room p q v w ne) (write_set (set room q w) p v (suc q) b (omega arith))

pub write_swap : (room : List ℕ) (p q : ℕ) (a b : List ℕ) → p + length a ≤ q → write (write room p a) q b ≡ write (write room q b) p a
unfolding write
write_swap room p q [] b h = refl
write_swap room p q (v ∷ a) b h =
    write_swap (set room p v) (suc p) q a b (omega arith) ∙ ap (λ r. write r (suc p) a) (write_set room p v q b (omega arith))

-- a room up to the end of what was written
pub take_write : (room : List ℕ) (p : ℕ) (ws : List ℕ) → p + length ws ≤ length room → take (p + length ws) (write room p ws) ≡ take p room ++ ws
unfolding write
take_write room p [] h = let e : p + 0 ≡ p = omega arith in rw e (sym (append-nil (take p room)))
take_write room p (w ∷ ws) h =
    let e : p + suc (length ws) ≡ suc p + length ws = omega arith in
    let s : suc p ≡ p + 1 = omega arith in
    ap (λ n. take n (write (set room p w) (suc p) ws)) e
    ∙ take_write (set room p w) (suc p) ws (omega (arith, length-set room p w))
    ∙ ap (λ n. take n (set room p w) ++ ws) s
    ∙ ap (λ xs. xs ++ ws) (take_more_set room p w (omega arith))
    ∙ append_assoc (take p room) (w ∷ []) ws

-- what is written into a room stands between what was before it and after it
pub write_parts : (room : List ℕ) (p : ℕ) (ws : List ℕ) → p + length ws ≤ length room → write room p ws ≡ take p room ++ (ws ++ drop (p + length ws) room)
unfolding write
write_parts room p [] h = rw add-zero (sym (take-append-drop p room))
write_parts room p (w ∷ ws) h =
    let e : suc p + length ws ≡ p + suc (length ws) = omega arith in
    let s : suc p ≡ p + 1 = omega arith in
    write_parts (set room p w) (suc p) ws (omega (arith, length-set room p w))
    ∙ ap (λ (n : ℕ). take n (set room p w) ++ (ws ++ drop (suc p + length ws) (set room p w))) s
    ∙ ap (λ (xs : List ℕ). xs ++ (ws ++ drop (suc p + length ws) (set room p w))) (take_more_set room p w (omega arith))
    ∙ ap (λ (xs : List ℕ). (take p room ++ w ∷ []) ++ (ws ++ xs)) (drop-set-lt (suc p + length ws) room p w (omega arith) ∙ ap (λ (n : ℕ). drop n room) e)
    ∙ append_assoc (take p room) (w ∷ []) (ws ++ drop (p + suc (length ws)) room)
