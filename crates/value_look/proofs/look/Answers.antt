-- `value_look::look` meets its contract: by the family. Assumes nothing.
use mathlib.Core.Path.{◌∙◌}
use Rattle.value_look.proofs.Seeing.{further_none}
use Rattle.value_look.proofs.look.Goals as goal

pub returns-in-Fixed : goal.returns-in-Fixed
returns-in-Fixed c =
    record {
      told = rw c.in-Fixed.is (c.scalar.ensures.told ∙ further_none _);
      lies = c.scalar.ensures.lies c.args.declared;
    }

pub returns-in-LengthByte : goal.returns-in-LengthByte
returns-in-LengthByte c =
    record {
      told = rw c.in-LengthByte.is c.length_byte.ensures.told;
      lies = c.length_byte.ensures.lies;
    }

pub returns-in-Content : goal.returns-in-Content
returns-in-Content c =
    record {
      told = rw c.in-Content.is c.content.ensures.told;
      lies = c.content.ensures.lies;
    }

pub returns-in-NotCarried : goal.returns-in-NotCarried
returns-in-NotCarried c =
    record {
      told = rw c.in-NotCarried.is;
      lies = tt;
    }
