-- `value_form::inner::form` meets its contract: by the family. Assumes nothing.
use Rattle.value_form.proofs.inner.form.Goals as goal

pub fixed-requires : goal.fixed-requires
fixed-requires c = (c.args.declared, rw c.in-Fixed.is at c.requires)

pub length_byte-requires : goal.length_byte-requires
length_byte-requires c = (c.args.declared, rw c.in-LengthByte.is at c.requires)

pub content-requires : goal.content-requires
content-requires c = rw c.in-Content.is at c.requires

pub returns-in-Fixed : goal.returns-in-Fixed
returns-in-Fixed c = rw c.in-Fixed.is (c.fixed.ensures c.args.declared)

pub returns-in-LengthByte : goal.returns-in-LengthByte
returns-in-LengthByte c = rw c.in-LengthByte.is (c.length_byte.ensures c.args.declared (rw c.in-LengthByte.is at c.requires))

pub returns-in-Content : goal.returns-in-Content
returns-in-Content c = rw c.in-Content.is c.content.ensures

pub returns-in-NotCarried : goal.returns-in-NotCarried
returns-in-NotCarried c = absurd (rw c.in-NotCarried.is at c.requires)
