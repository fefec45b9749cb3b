-- Laws of one block: its equations are those that sha2 has for any hash, and the words of the message schedule.
use Rattle.std.proofs.Common.{◌≡◌, ℕ, zero, suc, ◌-◌, ◌<◌, ◌≤◌, List, [], ◌∷◌, ◌++◌, length, get_or, refl, sym, ap, ◌∙◌, arith}
use Rattle.sha2_common.specs.Equations as sha2
use Rattle.sha2_common.proofs.Schedule as laws
use Rattle.sha256_block.specs.Fips.{◌⊞◌, small_sigma0, small_sigma1, K, message_word, schedule, t1, t2, round, rounds, Working, initialize, intermediate, compress}
use Rattle.sha256_block.specs.Equations.{sha256_functions}

-- ---- the equations of 6.2.2 are those of sha2

pub schedule-same : (M : List ℕ) (t : ℕ) → sha2.schedule sha256_functions M t ≡ schedule M t
unfolding schedule sha2.schedule message_word sha2.message_word
schedule-same M zero = refl
schedule-same M (suc t) = ap (λ (W : List ℕ). W ++ (message_word M W t ∷ [])) (schedule-same M t)

rounds-same : (W : List ℕ) (v : Working) (t : ℕ) → sha2.rounds sha256_functions W v t ≡ rounds W v t
unfolding rounds sha2.rounds round sha2.round t1 sha2.t1 t2 sha2.t2
rounds-same W v zero = refl
rounds-same W v (suc t) = ap (λ (u : Working). round u (get_or K t 0) (get_or W t 0)) (rounds-same W v t)

pub compress-same : (H M : List ℕ) → sha2.compress sha256_functions 64 H M ≡ compress H M
unfolding compress sha2.compress intermediate sha2.intermediate
compress-same H M =
    ap (λ (W : List ℕ). intermediate H (sha2.rounds sha256_functions W (initialize H) 64)) (schedule-same M 64)
    ∙ ap (intermediate H) (rounds-same (schedule M 64) (initialize H) 64)

-- ---- the message schedule

pub length-schedule : (M : List ℕ) (t : ℕ) → length (schedule M t) ≡ t
length-schedule M t = ap length (sym (schedule-same M t)) ∙ laws.length-schedule sha256_functions M t

-- the schedule meets its equations in the standard
module _ (M : List ℕ) where
  pub schedule-first : (t : ℕ) → t < 16 → get_or (schedule M 64) t 0 ≡ get_or M t 0
  schedule-first t p = rw (schedule-same M 64) at (laws.schedule-first sha256_functions M 64 t (omega arith) p)

  pub schedule-next : (t : ℕ) → 16 ≤ t → t < 64 → let W = schedule M 64 in
      get_or W t 0 ≡ small_sigma1 (get_or W (t - 2) 0) ⊞ get_or W (t - 7) 0 ⊞ small_sigma0 (get_or W (t - 15) 0) ⊞ get_or W (t - 16) 0
  schedule-next t p q = rw (schedule-same M 64) at (laws.schedule-next sha256_functions M 64 t q p)
