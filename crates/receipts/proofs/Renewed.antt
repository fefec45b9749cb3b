-- A list whose words are made new one by one, from the end to the beginning. Places that are passed over have their new word already.
-- Assumes nothing.
use Prim.Native.Nat.{ℕ, ◌-◌, ◌≤◌, ◌<◌}
use native.Mathlib.Decide.{dec_le}
use native.Mathlib.Omega.{arith}
use mathlib.Core.Path.{◌≡◌, refl, sym, ◌∙◌}
use mathlib.Core.Logic.{by_cases}
use mathlib.Core.List.{List}
use lib.ListN.{length, get_or, set, length-set}
use lib.Seq.{get_or-set_same, get_or-set_other, ext_get_or}
use Rattle.model.specs.Lists.{tabulate}
use Rattle.model.proofs.Lists.{length-tabulate, get_or-tabulate}

-- the words from place k on are new, those before it are the old ones
pub record Renewed (new : ℕ → ℕ) (old : List ℕ) (k : ℕ) (ws : List ℕ) : Type 0 where
  pub size : length ws ≡ length old
  pub kept : (j : ℕ) → j < k → get_or ws j 0 ≡ get_or old j 0
  pub made : (j : ℕ) → k ≤ j → j < length old → get_or ws j 0 ≡ new j

module _ {new : ℕ → ℕ} {old : List ℕ} where
  pub renewed-begins : {k : ℕ} → ((j : ℕ) → k ≤ j → j < length old → new j ≡ get_or old j 0) → Renewed new old k old
  renewed-begins same = record { size = refl; kept = λ j l. refl; made = λ j l u. sym (same j l u) }

  -- places that are passed over
  pub renewed-past : {k r : ℕ} → ((j : ℕ) → r ≤ j → j < k → new j ≡ get_or old j 0) → r ≤ k → {ws : List ℕ} → Renewed new old k ws → Renewed new old r ws
  renewed-past {k} same less w = record {
    size = w.size;
    kept = λ j l. w.kept j (omega arith);
    made = λ j l u. by_cases (dec_le k j) (λ m. w.made j m u) (λ m. w.kept j (omega arith) ∙ sym (same j l (omega arith)));
  }

  -- the last of the old words: it is put, or is as it should be
  module _ (k : ℕ) (s : 1 ≤ k) {ws : List ℕ} (w : Renewed new old k ws) where
    pub last-old : get_or ws (k - 1) 0 ≡ get_or old (k - 1) 0
    last-old = w.kept (k - 1) (omega arith)

    pub renewed-same : new (k - 1) ≡ get_or old (k - 1) 0 → Renewed new old (k - 1) ws
    renewed-same e =
        renewed-past
        (λ j l u.
        let here : j ≡ k - 1 = omega arith in
        rw here e)
        (omega arith) w

    pub renewed-put : k ≤ length old → {v : ℕ} → new (k - 1) ≡ v → Renewed new old (k - 1) (set ws (k - 1) v)
    renewed-put m {v} e = record {
      size = length-set ws (k - 1) v ∙ w.size;
      kept = λ j l. get_or-set_other ws (k - 1) j v 0 (λ q. omega arith) ∙ w.kept j (omega arith);
      made = λ j l u. by_cases (dec_le k j)
          (λ more. get_or-set_other ws (k - 1) j v 0 (λ q. omega arith) ∙ w.made j more u)
          (λ more.
          let here : j ≡ k - 1 = omega arith in
          rw here (get_or-set_same ws (k - 1) v 0 (omega (arith, w.size)) ∙ sym e));
    }

  pub renewed-all : {ws : List ℕ} → Renewed new old 0 ws → ws ≡ tabulate new (length old)
  renewed-all {ws} w =
      let n = length old in
      ext_get_or 0 ws (tabulate new n) (w.size ∙ sym (length-tabulate new n))
      (λ j l.
      let u : j < n = omega (arith, w.size) in
      w.made j (omega arith) u ∙ sym (get_or-tabulate new n j 0 u))
