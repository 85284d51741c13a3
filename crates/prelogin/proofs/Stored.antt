-- The code's stores, one run behind another, are one run: an entry, the table, the data, and the whole message of document 01.
-- Assumes nothing.
use mathlib.Core.Path.{◌≡◌, ap, ◌∙◌}
use mathlib.Core.List.{List, [], ◌∷◌, ◌++◌}
use mathlib.Core.Bool.{true, false}
use Prim.Native.Nat.{ℕ, ◌+◌}
use lib.ListN.{length}
use lib.Seq.{sets}
use Rattle.lists.specs.Pick.{pick}
use Rattle.lists.proofs.Front.{sets_more}
use Rattle.format.specs.Number.{high_bytes}
use Rattle.format.specs.Prelogin.{options, message}
use Rattle.prelogin.specs.declared.Prelogin.{Prelogin}
use Rattle.prelogin.specs.Told.{encryption_number, prelogin_told, entry_bytes, table_bytes, data_bytes}

module _ (out : List ℕ) where
  pub entry_stored : (at token offset count : ℕ) →
      sets (sets (sets out at (token ∷ [])) (at + 1) (high_bytes 2 offset)) (at + 3) (high_bytes 2 count) ≡ sets out at (entry_bytes token offset count)
  unfolding entry_bytes
  entry_stored at token offset count =
      ap (λ (l : List ℕ). sets l (at + 3) (high_bytes 2 count)) (sets_more out at (token ∷ []) (high_bytes 2 offset))
      ∙ sets_more out at (token ∷ high_bytes 2 offset) (high_bytes 2 count)

  pub table_stored : (start : ℕ) →
      sets (sets (sets (sets out 0 (entry_bytes 0 start 6)) 5 (entry_bytes 1 (start + 6) 1)) 10 (entry_bytes 3 (start + 7) 4)) 15 (entry_bytes 4 (start + 11) 1)
      ≡ sets out 0 (table_bytes start)
  unfolding table_bytes entry_bytes
  table_stored start =
      let a = entry_bytes 0 start 6 in
      let b = entry_bytes 1 (start + 6) 1 in
      let c = entry_bytes 3 (start + 7) 4 in
      let d = entry_bytes 4 (start + 11) 1 in
      ap (λ (l : List ℕ). sets (sets l 10 c) 15 d) (sets_more out 0 a b)
      ∙ (ap (λ (l : List ℕ). sets l 15 d) (sets_more out 0 (a ++ b) c)
      ∙ sets_more out 0 ((a ++ b) ++ c) d)

  pub data_stored : (at : ℕ) (p : Prelogin) →
      sets
      (sets
      (sets (sets (sets out at (high_bytes 4 p.version)) (at + 4) (high_bytes 2 p.sub_build)) (at + 6) (encryption_number p.encryption ∷ []))
      (at + 7) (high_bytes 4 p.thread_id))
      (at + 11) (pick p.mars 1 0 ∷ [])
      ≡ sets out at (data_bytes p)
  unfolding data_bytes
  data_stored at p =
      let a = high_bytes 4 p.version in
      let b = high_bytes 2 p.sub_build in
      let c = encryption_number p.encryption ∷ [] in
      let d = high_bytes 4 p.thread_id in
      let e : List ℕ = pick p.mars 1 0 ∷ [] in
      ap (λ (l : List ℕ). sets (sets (sets l (at + 6) c) (at + 7) d) (at + 11) e) (sets_more out at a b)
      ∙ (ap (λ (l : List ℕ). sets (sets l (at + 7) d) (at + 11) e) (sets_more out at (a ++ b) c)
      ∙ (ap (λ (l : List ℕ). sets l (at + 11) e) (sets_more out at ((a ++ b) ++ c) d)
      ∙ sets_more out at (((a ++ b) ++ c) ++ d) e))

-- the message of document 01
abbrev pub bytes : Prelogin → List ℕ
bytes p = message (options (prelogin_told p))

module _ (out : List ℕ) (p : Prelogin) where
  shorter_is : p.fed_auth_required ≡ false → (table_bytes 21 ++ (0xFF ∷ [])) ++ data_bytes p ≡ bytes p
  unfolding table_bytes entry_bytes data_bytes
  shorter_is h = rw h

  longer_is : p.fed_auth_required ≡ true → (((table_bytes 26 ++ entry_bytes 6 38 1) ++ (0xFF ∷ [])) ++ data_bytes p) ++ (1 ∷ []) ≡ bytes p
  unfolding table_bytes entry_bytes data_bytes
  longer_is h = rw h

  pub shorter_stored : p.fed_auth_required ≡ false →
      sets (sets (sets out 0 (table_bytes 21)) 20 (0xFF ∷ [])) 21 (data_bytes p) ≡ sets out 0 (bytes p)
  unfolding table_bytes entry_bytes data_bytes
  shorter_stored h =
      ap (λ (l : List ℕ). sets l 21 (data_bytes p)) (sets_more out 0 (table_bytes 21) (0xFF ∷ []))
      ∙ (sets_more out 0 (table_bytes 21 ++ (0xFF ∷ [])) (data_bytes p) ∙ ap (sets out 0) (shorter_is h))

  pub shorter_length : p.fed_auth_required ≡ false → length (bytes p) ≡ 33
  shorter_length h = rw h

  pub longer_stored : p.fed_auth_required ≡ true →
      sets (sets (sets (sets (sets out 0 (table_bytes 26)) 20 (entry_bytes 6 38 1)) 25 (0xFF ∷ [])) 26 (data_bytes p)) 38 (1 ∷ []) ≡ sets out 0 (bytes p)
  unfolding table_bytes entry_bytes data_bytes
  longer_stored h =
      let a = table_bytes 26 in
      let b = entry_bytes 6 38 1 in
      let c : List ℕ = 0xFF ∷ [] in
      let d = data_bytes p in
      let e : List ℕ = 1 ∷ [] in
      ap (λ (l : List ℕ). sets (sets (sets l 25 c) 26 d) 38 e) (sets_more out 0 a b)
      ∙ (ap (λ (l : List ℕ). sets (sets l 26 d) 38 e) (sets_more out 0 (a ++ b) c)
      ∙ (ap (λ (l : List ℕ). sets l 38 e) (sets_more out 0 ((a ++ b) ++ c) d)
      ∙ (sets_more out 0 (((a ++ b) ++ c) ++ d) e ∙ ap (sets out 0) (longer_is h))))

  pub longer_length : p.fed_auth_required ≡ true → length (bytes p) ≡ 39
  longer_length h = rw h
