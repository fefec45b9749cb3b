-- Laws of text put into bytes: one text after another, and text at the start. Assumes nothing.
use Prim.Native.Nat.{ℕ, ◌+◌, ◌≤◌, ◌<◌}
use native.Mathlib.Nat.{add-zero, zero-add, add_assoc}
use native.Mathlib.Omega.{arith}
use mathlib.Core.Path.{◌≡◌, refl, sym, ap, ◌∙◌}
use mathlib.Core.List.{List, [], ◌∷◌, ◌++◌}
use lib.ListN.{length, set, length-append}
use lib.Seq.{sets-eq, length-sets}
use Rattle.words.proofs.Writing.{sets-append}
use Rattle.text.specs.declared.writer.Writer.{Writer}
use Rattle.text.specs.Put.{Put, Writes, Shown}

-- nothing is put
pub put-none : (l : List ℕ) (i k : ℕ) → i ≤ length l → k ≡ i → Put l i [] l k
put-none l i k h e = record { fits = omega arith; wrote = refl; behind = e ∙ sym (add-zero i) }

-- a byte
pub put_byte : (l : List ℕ) (i x : ℕ) → i < length l → Put l i (x ∷ []) (set l i x) (i + 1)
put_byte l i x h = record { fits = omega arith; wrote = refl; behind = refl }

-- as many bytes as before
pub length-put : {l m : List ℕ} {i k : ℕ} {a : List ℕ} → Put l i a m k → length m ≡ length l
length-put {l} {m} {i} {k} {a} p = ap length p.wrote ∙ length-sets l i a

-- one text, then another
pub put_then : {l m n : List ℕ} {i j k : ℕ} {a b : List ℕ} → Put l i a m j → Put m j b n k → Put l i (a ++ b) n k
put_then {l} {m} {n} {i} {j} {k} {a} {b} p q = record {
  fits = rw length-append (omega (arith, length-put p, p.behind, q.fits));
  wrote = q.wrote ∙ rw (p.wrote, p.behind) (sets-append l a b i (i + length a) refl);
  behind = q.behind ∙ rw (p.behind, length-append) (add_assoc i (length a) (length b));
}

-- a writer that wrote nothing
pub writes-none : (u : Writer) → u.at ≤ length u.out.now → Writes u [] u
writes-none u h = record { put = put-none u.out.now u.at u.at h refl; same = refl; room = refl }

-- a writer that wrote one text, then another
pub writes_then : {u v w : Writer} {a b : List ℕ} → Writes u a v → Writes v b w → Writes u (a ++ b) w
writes_then p q = record { put = put_then p.put q.put; same = q.same ∙ p.same; room = q.room ∙ p.room }

-- text at the start
pub put-start : {l m : List ℕ} {s : List ℕ} {k : ℕ} → Put l 0 s m k → Shown l s m k
put-start {l} {m} {s} {k} p =
    let e : k ≡ length s = p.behind ∙ zero-add (length s) in
    record { end = e; bytes = p.wrote ∙ sets-eq s l 0 p.fits ∙ rw (e, zero-add) }
