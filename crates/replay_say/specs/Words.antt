-- The words of bytes and of a room behind a call, as cases/PROTOCOL.md has them.
use Rattle.std.specs.Prelude.{ℕ, List, [], ◌∷◌, ◌++◌, length, take, drop, leb, codes}
use Rattle.std.specs.Fmt.{decimal}
use Rattle.lists.specs.Pick.{pick}
use Rattle.words.specs.Hex.{hex_text}
use Rattle.replay_say.specs.Room.{changed_in}

-- "HEX is bytes in lower-case hexadecimal, two digits each and no spaces; `-` for no bytes."
abbrev pub bytes_text : List ℕ → List ℕ
bytes_text [] = codes "-"
bytes_text (b ∷ s) = hex_text (b ∷ s)

-- "W HEX changed K: the count W written, the W bytes at the front of the room, and how many bytes of the room behind them aren't A5."
abbrev pub wrote_text : List ℕ → ℕ → List ℕ
wrote_text room w = decimal w ++ (codes " " ++ (bytes_text (take w room) ++ (codes " changed " ++ decimal (changed_in (drop w room)))))

-- A room that has not as many bytes is no call's, and the protocol has no words for it: the count alone.
abbrev pub written_text : List ℕ → ℕ → List ℕ
written_text room w = pick (leb w (length room)) (wrote_text room w) (decimal w)
