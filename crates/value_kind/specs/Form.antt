-- Binary and string content along one path: how content is written, in which form, behind which bytes and within which bound.
-- Second definitions, as the code goes; proofs/ContentLaws.antt ties them to those of `format`.
use Rattle.std.specs.Prelude.{ℕ, List, ◌∷◌, ◌++◌, Bool, true, false, length, ltb, Some}
use Rattle.lists.specs.Pick.{pick}
use Rattle.format.specs.Answer.{Answer, gives, refuses, missing, long, refuse_if, and_then, Part, inside, outside}
use Rattle.format.specs.Number.{low_bytes}
use Rattle.format.specs.Text.{text_in}
use Rattle.format.specs.Descriptor.{UShortLen, u_short_len_byte}
use Rattle.format.specs.Plp.{plp_mark, plp_bytes}
use Rattle.format.specs.Value.{ContentKind, Given, short_bytes, untyped_length, untyped_binary, untyped_string, untyped_bound, zero_collation}

-- a value of the kind
abbrev pub given_of : ContentKind → Part → Given
given_of ContentKind.binary p = Given.binary p
given_of ContentKind.string p = Given.string p

-- the content bytes: binary as it is, a string in UTF-16LE
abbrev pub encoded : ContentKind → List ℕ → Answer (List ℕ)
encoded ContentKind.binary s = gives s
encoded ContentKind.string s = text_in s

abbrev pub encoded_part : ContentKind → Part → Answer (List ℕ)
encoded_part k (inside s) = encoded k s
encoded_part k outside = refuses missing

-- the two forms: PLP, or two length bytes and the content
abbrev pub formed : Bool → List ℕ → List ℕ
formed true c = plp_bytes (Some c)
formed false c = short_bytes c

abbrev pub in_form : Bool → Answer (List ℕ) → Answer (List ℕ)
in_form plp a = and_then a (λ c. gives (formed plp c))

-- content within a bound, behind a head
unfoldable pub framed : List ℕ → Bool → ℕ → List ℕ → Answer (List ℕ)
framed head plp bound c = refuse_if (ltb bound (length c)) long (gives (head ++ formed plp c))

-- ---- without a type

-- up to how many bytes, as they were lent, content is written in the short form
abbrev pub short_up_to : ContentKind → ℕ
short_up_to ContentKind.binary = untyped_binary
short_up_to ContentKind.string = untyped_string

-- type byte, declared length, collation
abbrev pub untyped_head : ContentKind → Bool → List ℕ
untyped_head ContentKind.binary short = u_short_len_byte UShortLen.big_var_bin ∷ low_bytes 2 (pick short untyped_length plp_mark)
untyped_head ContentKind.string short = u_short_len_byte UShortLen.n_varchar ∷ (low_bytes 2 (pick short untyped_length plp_mark) ++ zero_collation)

-- short content is within its declared length by itself
abbrev pub untyped_limit : Bool → ℕ
untyped_limit short = pick short untyped_length untyped_bound
