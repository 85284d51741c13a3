-- A character's stores, one behind another, are the character put at the place. Assumes nothing.
use mathlib.Core.Path.{◌≡◌, ◌∙◌}
use mathlib.Core.List.{List, [], ◌∷◌, ◌++◌}
use Prim.Native.Nat.{ℕ, ◌+◌, ◌-◌, ◌/◌, ◌%◌, ◌<◌, ◌≤◌}
use lib.ListN.{length, set, length-set}
use lib.Seq.{sets, length-sets}
use Rattle.lists.specs.Put.{put_at}
use Rattle.lists.proofs.Front.{sets_more}
use Rattle.format.specs.Number.{low_bytes}
use Rattle.format.specs.Text.{utf8, utf16}
use Rattle.format.proofs.Utf8.{utf8_one, utf8_two, utf8_three, utf8_four}
use Rattle.format.proofs.Utf16.{utf16_one, utf16_two}
use Rattle.text_char.proofs.Sizes.{one_byte, two_bytes, three_bytes, four_bytes, one_unit, two_units}
use Rattle.text_char.proofs.Stores.{stored, sets_two, sets_three, sets_four}

module _ (out : List ℕ) (o c : ℕ) where
  pub put_one : c < 0x80 → o + length (utf8 c) ≤ length out → set out o c ≡ put_at out o (utf8 c)
  put_one h r = stored out (c ∷ []) (utf8 c) o (utf8_one c h) r

  pub put_two : 0x80 ≤ c → c < 0x800 → o + length (utf8 c) ≤ length out → set (set out o (0xC0 + c / 64)) (o + 1) (0x80 + c % 64) ≡ put_at out o (utf8 c)
  put_two h i r = sets_two out o (0xC0 + c / 64) (0x80 + c % 64) ∙ stored out ((0xC0 + c / 64) ∷ (0x80 + c % 64) ∷ []) (utf8 c) o (utf8_two c h i) r

  pub put_three : 0x800 ≤ c → c < 0x10000 → o + length (utf8 c) ≤ length out →
      set (set (set out o (0xE0 + c / 4096)) (o + 1) (0x80 + c / 64 % 64)) (o + 2) (0x80 + c % 64) ≡ put_at out o (utf8 c)
  put_three h i r =
      sets_three out o (0xE0 + c / 4096) (0x80 + c / 64 % 64) (0x80 + c % 64)
      ∙ stored out ((0xE0 + c / 4096) ∷ (0x80 + c / 64 % 64) ∷ (0x80 + c % 64) ∷ []) (utf8 c) o (utf8_three c h i) r

  pub put_four : 0x10000 ≤ c → o + length (utf8 c) ≤ length out →
      set (set (set (set out o (0xF0 + c / 262144)) (o + 1) (0x80 + c / 4096 % 64)) (o + 2) (0x80 + c / 64 % 64)) (o + 3) (0x80 + c % 64)
      ≡ put_at out o (utf8 c)
  put_four h r =
      sets_four out o (0xF0 + c / 262144) (0x80 + c / 4096 % 64) (0x80 + c / 64 % 64) (0x80 + c % 64)
      ∙ stored out ((0xF0 + c / 262144) ∷ (0x80 + c / 4096 % 64) ∷ (0x80 + c / 64 % 64) ∷ (0x80 + c % 64) ∷ []) (utf8 c) o (utf8_four c h) r

  pub put_single : c < 0x10000 → o + length (utf16 c) ≤ length out → sets out o (low_bytes 2 c) ≡ put_at out o (utf16 c)
  put_single h r = stored out (low_bytes 2 c) (utf16 c) o (utf16_one c h) r

  pub put_pair : 0x10000 ≤ c → o + length (utf16 c) ≤ length out →
      sets (sets out o (low_bytes 2 (0xD800 + (c - 0x10000) / 1024))) (o + 2) (low_bytes 2 (0xDC00 + (c - 0x10000) % 1024)) ≡ put_at out o (utf16 c)
  put_pair h r =
      let high = low_bytes 2 (0xD800 + (c - 0x10000) / 1024) in
      let low = low_bytes 2 (0xDC00 + (c - 0x10000) % 1024) in
      sets_more out o high low ∙ stored out (high ++ low) (utf16 c) o (utf16_two c h) r

pub ruleset bytes = (put_one, put_two, put_three, put_four, one_byte, two_bytes, three_bytes, four_bytes, length-set)

pub ruleset units = (put_single, put_pair, one_unit, two_units, length-sets)
