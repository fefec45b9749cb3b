-- What a running hash stands for, as sha2 has it for any hash: its digests are those of the message.
use mathlib.Core.Path.{◌≡◌, sym, ap, ap₂, ◌∙◌}
use Prim.Native.Nat.{ℕ, ◌-◌, ◌*◌, ◌/◌}
use mathlib.Core.List.{List, [], ◌++◌, append_assoc}
use native.Mathlib.Nat.{le_of_eq}
use native.Mathlib.Omega.{arith}
use lib.ListN.{length, take, drop, length-drop, take-append-drop}
use lib.Seq.{length-take-le, take_all}
use Rattle.sha2_common.proofs.Blocks.{hash_over-append}
use Rattle.sha2_common.proofs.Holds as sha2
use Rattle.sha512_block.specs.Fips.{H0-384, H0-512, to_halves, padding, padded, hash_words, sha384_words, sha512_words}
use Rattle.sha512_block.proofs.Padding.{hash_words-halves}
use Rattle.sha512_blocks.specs.Blocks.{sha512_function, hash_over}
use Rattle.sha512_blocks.proofs.Blocks.{thirty_two, hash_value-from}
use Rattle.sha512.specs.State.{running, fresh384, fresh512, fed, ended, digest384_of, digest512_of, Holds}
use Rattle.sha512.specs.declared.Hash.{Hash}

pub holds-fresh384 : Holds H0-384 fresh384 []
unfolding fresh384
holds-fresh384 = sha2.holds-fresh sha512_function thirty_two H0-384

pub holds-fresh512 : Holds H0-512 fresh512 []
unfolding fresh512
holds-fresh512 = sha2.holds-fresh sha512_function thirty_two H0-512

module _ (start : List ℕ) where
  -- words fed
  pub holds-fed : {s r : Hash} {m : List ℕ} (xs : List ℕ) → Holds start s m → r ≡ fed s xs → Holds start r (m ++ xs)
  unfolding fed
  holds-fed xs g e = sha2.holds-fed sha512_function thirty_two start xs g (ap running e)

  -- H(N), over blocks of 32 words
  hash_words-over : (m : List ℕ) → hash_words start m ≡ hash_over start (padded m)
  hash_words-over m = hash_words-halves start m ∙ hash_value-from start (padded m) (length (padded m) / 32)

  -- the hash value in the end
  ended_held : {s : Hash} {m : List ℕ} → Holds start s m → ended s ≡ hash_words start m
  unfolding ended
  ended_held {m = m} g = sha2.ended_held sha512_function thirty_two start g ∙ sym (hash_words-over m)

  -- the calls of `hash_words`: the whole blocks of a message, then the words left over with the padding
  pub hash-whole : (m : List ℕ) {h r : List ℕ} → let e = length m / 32 * 32 in
      h ≡ hash_over start (take e m) → r ≡ hash_over h (take (length m - e) (drop e m) ++ padding (length m)) → r ≡ hash_words start m
  hash-whole m p q =
      let e = length m / 32 * 32 in
      let n = length-take-le e m (omega arith) in
      q
      ∙ ap₂ (λ (H w : List ℕ). hash_over H (w ++ padding (length m))) p
      (take_all (length m - e) (drop e m) (le_of_eq (length-drop e m)))
      ∙ sym (hash_over-append sha512_function thirty_two start (take e m) (drop e m ++ padding (length m)) (omega (arith, n)))
      ∙ ap (hash_over start)
      (sym (append_assoc (take e m) (drop e m) (padding (length m)))
      ∙ ap (λ (l : List ℕ). l ++ padding (length m)) (take-append-drop e m))
      ∙ sym (hash_words-over m)

-- the digests
pub digest384-held : {s : Hash} {m : List ℕ} → Holds H0-384 s m → digest384_of s ≡ sha384_words m
unfolding digest384_of sha384_words
digest384-held g = ap (λ (h : List ℕ). to_halves (take 6 h)) (ended_held H0-384 g)

pub digest512-held : {s : Hash} {m : List ℕ} → Holds H0-512 s m → digest512_of s ≡ sha512_words m
unfolding digest512_of sha512_words
digest512-held g = ap to_halves (ended_held H0-512 g)
