-- GUID: document 01, "Values under a type"; MS-TDS, "GUID".
use Rattle.std.specs.Prelude.{ℕ, List, ◌++◌, reverse, take, drop}

-- "GUID text order reverses bytes 0 to 3, 4 to 5 and 6 to 7 on the wire": from text order to wire order, and from wire order to text order.
unfoldable pub guid_order : List ℕ → List ℕ
guid_order s = reverse (take 4 s) ++ (reverse (take 2 (drop 4 s)) ++ (reverse (take 2 (drop 6 s)) ++ drop 8 s))
