-- `column_form::middle_form` meets its contract: each arm says which number it is, and so which type. Assumes nothing.
use mathlib.Core.Path.{refl, ap, ◌∙◌}
use Rattle.format.specs.Descriptor.{FixedLen, ByteLen, fixed_len, byte_len, type_of}
use Rattle.format.proofs.DescriptorForm.{type_again}
use Rattle.column_form.proofs.middle_form.Goals as goal

pub returns-in-122 : goal.returns-in-122
returns-in-122 c = (FixedLen.money4, ap type_of c.in-122.is ∙ type_again (fixed_len FixedLen.money4))

pub returns-in-127 : goal.returns-in-127
returns-in-127 c = (FixedLen.int8, ap type_of c.in-127.is ∙ type_again (fixed_len FixedLen.int8))

pub returns-in-104 : goal.returns-in-104
returns-in-104 c = (ByteLen.bitn, ap type_of c.in-104.is ∙ type_again (byte_len ByteLen.bitn), refl)

pub returns-in-109 : goal.returns-in-109
returns-in-109 c = (ByteLen.floatn, ap type_of c.in-109.is ∙ type_again (byte_len ByteLen.floatn), refl)

pub returns-in-110 : goal.returns-in-110
returns-in-110 c = (ByteLen.moneyn, ap type_of c.in-110.is ∙ type_again (byte_len ByteLen.moneyn), refl)

pub returns-in-111 : goal.returns-in-111
returns-in-111 c = (ByteLen.datetimen, ap type_of c.in-111.is ∙ type_again (byte_len ByteLen.datetimen), refl)

pub returns-in-106 : goal.returns-in-106
returns-in-106 c = (ByteLen.decimaln, ap type_of c.in-106.is ∙ type_again (byte_len ByteLen.decimaln), refl)

pub returns-in-108 : goal.returns-in-108
returns-in-108 c = (ByteLen.numericn, ap type_of c.in-108.is ∙ type_again (byte_len ByteLen.numericn), refl)

pub returns-in_default : goal.returns-in_default
returns-in_default c = tt
