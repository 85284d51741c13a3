-- `column_form::low_form` meets its contract: each arm says which number it is, and so which type. Assumes nothing.
use mathlib.Core.Path.{refl, ap, ◌∙◌}
use Rattle.format.specs.Descriptor.{FixedLen, ByteLen, fixed_len, byte_len, type_of}
use Rattle.format.proofs.DescriptorForm.{type_again}
use Rattle.column_form.proofs.low_form.Goals as goal

pub returns-in-31 : goal.returns-in-31
returns-in-31 c = (FixedLen.null, ap type_of c.in-31.is ∙ type_again (fixed_len FixedLen.null))

pub returns-in-48 : goal.returns-in-48
returns-in-48 c = (FixedLen.int1, ap type_of c.in-48.is ∙ type_again (fixed_len FixedLen.int1))

pub returns-in-50 : goal.returns-in-50
returns-in-50 c = (FixedLen.bit, ap type_of c.in-50.is ∙ type_again (fixed_len FixedLen.bit))

pub returns-in-52 : goal.returns-in-52
returns-in-52 c = (FixedLen.int2, ap type_of c.in-52.is ∙ type_again (fixed_len FixedLen.int2))

pub returns-in-56 : goal.returns-in-56
returns-in-56 c = (FixedLen.int4, ap type_of c.in-56.is ∙ type_again (fixed_len FixedLen.int4))

pub returns-in-58 : goal.returns-in-58
returns-in-58 c = (FixedLen.datetime4, ap type_of c.in-58.is ∙ type_again (fixed_len FixedLen.datetime4))

pub returns-in-59 : goal.returns-in-59
returns-in-59 c = (FixedLen.float4, ap type_of c.in-59.is ∙ type_again (fixed_len FixedLen.float4))

pub returns-in-60 : goal.returns-in-60
returns-in-60 c = (FixedLen.money, ap type_of c.in-60.is ∙ type_again (fixed_len FixedLen.money))

pub returns-in-61 : goal.returns-in-61
returns-in-61 c = (FixedLen.datetime, ap type_of c.in-61.is ∙ type_again (fixed_len FixedLen.datetime))

pub returns-in-62 : goal.returns-in-62
returns-in-62 c = (FixedLen.float8, ap type_of c.in-62.is ∙ type_again (fixed_len FixedLen.float8))

pub returns-in-36 : goal.returns-in-36
returns-in-36 c = (ByteLen.guid, ap type_of c.in-36.is ∙ type_again (byte_len ByteLen.guid), refl)

pub returns-in-38 : goal.returns-in-38
returns-in-38 c = (ByteLen.intn, ap type_of c.in-38.is ∙ type_again (byte_len ByteLen.intn), refl)

pub returns-in-41 : goal.returns-in-41
returns-in-41 c = (ByteLen.timen, ap type_of c.in-41.is ∙ type_again (byte_len ByteLen.timen), refl)

pub returns-in-42 : goal.returns-in-42
returns-in-42 c = (ByteLen.datetime2, ap type_of c.in-42.is ∙ type_again (byte_len ByteLen.datetime2), refl)

pub returns-in-43 : goal.returns-in-43
returns-in-43 c = (ByteLen.datetime_offsetn, ap type_of c.in-43.is ∙ type_again (byte_len ByteLen.datetime_offsetn), refl)

pub returns-in_default : goal.returns-in_default
returns-in_default c = tt
