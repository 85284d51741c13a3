-- `prelogin::put_data` meets its contract: five runs of stores are one. Assumes nothing.
use mathlib.Core.Path.{◌≡◌, refl, ◌∙◌}
use mathlib.Core.Bool.{Bool, true, false}
use mir.Val.{bool_byte}
use Rattle.lists.specs.Pick.{pick}
use Rattle.prelogin.proofs.Stored.{data_stored}
use Rattle.prelogin.proofs.put_data.Goals as goal

byte_is : (b : Bool) → bool_byte b ≡ pick b 1 0
byte_is true = refl
byte_is false = refl

pub returns : goal.returns
returns c =
    let a = c.args in
    rw (
      c.put_byte-2.ensures,
      c.from-2.ensures ∙ byte_is a.p.mars,
      c.put_high-3.ensures,
      c.put_byte.ensures,
      c.from.ensures,
      c.put_high-2.ensures,
      c.put_high.ensures,
    )
    (data_stored a.out.now a.at a.p)
