-- What this crate's declared types tell, in the words of `format`: the normal form of the value that the rest of a row begins with.
use Rattle.std.specs.Prelude.{ℕ, ◌+◌, List, [], ◌∷◌, ◌++◌, take, Option}
use Rattle.format.specs.Answer.{Read, took, stops, map_read}
use Rattle.format.specs.Plp.{read_plp, plp_bytes}
use Rattle.format.specs.Value.{Family, read_family, encode_family}
use Rattle.value_form.specs.declared.Form.{Form}
use Rattle.value_form.specs.declared.Form.TheVariants as F

-- the normal form of a value under a family, and how many bytes the value took
abbrev pub normal_in : ℕ → Option Family → List ℕ → Read (List ℕ)
normal_in declared f rest = map_read (encode_family declared f) (read_family declared f rest)

-- there is a value
abbrev pub IsRead : {A : Type 0} → Read A → Type 0
IsRead (took v n) = Unit {0}
IsRead (stops e) = ⊥

abbrev pub form_told : List ℕ → Form → Read (List ℕ)
form_told rest (F.Same n) = took (take n rest) n
form_told rest (F.Bit at) = took (take at rest ++ (1 ∷ [])) (at + 1)
form_told rest (F.Plp text) = map_read plp_bytes (read_plp text rest)
