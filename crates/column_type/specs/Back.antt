-- The declared types of the words of `format`: telling the other way.
use Rattle.format.specs.Descriptor as D
use Rattle.column_type.specs.declared.FixedLen.{FixedLen}
use Rattle.column_type.specs.declared.FixedLen.TheVariants as F
use Rattle.column_type.specs.declared.ByteLen.{ByteLen}
use Rattle.column_type.specs.declared.ByteLen.TheVariants as B
use Rattle.column_type.specs.declared.UShortLen.{UShortLen}
use Rattle.column_type.specs.declared.UShortLen.TheVariants as U
use Rattle.column_type.specs.declared.LongLen.{LongLen}
use Rattle.column_type.specs.declared.LongLen.TheVariants as L
use Rattle.column_type.specs.declared.TypeId.{TypeId}
use Rattle.column_type.specs.declared.TypeId.TheVariants as T

abbrev pub fixed_back : D.FixedLen → FixedLen
fixed_back D.FixedLen.null = F.Null
fixed_back D.FixedLen.int1 = F.Int1
fixed_back D.FixedLen.bit = F.Bit
fixed_back D.FixedLen.int2 = F.Int2
fixed_back D.FixedLen.int4 = F.Int4
fixed_back D.FixedLen.datetime4 = F.Datetime4
fixed_back D.FixedLen.float4 = F.Float4
fixed_back D.FixedLen.money = F.Money
fixed_back D.FixedLen.datetime = F.Datetime
fixed_back D.FixedLen.float8 = F.Float8
fixed_back D.FixedLen.money4 = F.Money4
fixed_back D.FixedLen.int8 = F.Int8

abbrev pub byte_len_back : D.ByteLen → ByteLen
byte_len_back D.ByteLen.guid = B.Guid
byte_len_back D.ByteLen.intn = B.Intn
byte_len_back D.ByteLen.bitn = B.Bitn
byte_len_back D.ByteLen.decimaln = B.Decimaln
byte_len_back D.ByteLen.numericn = B.Numericn
byte_len_back D.ByteLen.floatn = B.Floatn
byte_len_back D.ByteLen.moneyn = B.Moneyn
byte_len_back D.ByteLen.datetimen = B.Datetimen
byte_len_back D.ByteLen.timen = B.Timen
byte_len_back D.ByteLen.datetime2 = B.Datetime2
byte_len_back D.ByteLen.datetime_offsetn = B.DatetimeOffsetn

abbrev pub u_short_len_back : D.UShortLen → UShortLen
u_short_len_back D.UShortLen.big_var_bin = U.BigVarBin
u_short_len_back D.UShortLen.big_var_char = U.BigVarChar
u_short_len_back D.UShortLen.big_binary = U.BigBinary
u_short_len_back D.UShortLen.big_char = U.BigChar
u_short_len_back D.UShortLen.n_varchar = U.NVarchar
u_short_len_back D.UShortLen.n_char = U.NChar

abbrev pub long_len_back : D.LongLen → LongLen
long_len_back D.LongLen.image = L.Image
long_len_back D.LongLen.text = L.Text
long_len_back D.LongLen.n_text = L.NText

abbrev pub type_back : D.TypeId → TypeId
type_back (D.fixed_len t) = T.Fixed (fixed_back t)
type_back (D.byte_len t) = T.Byte (byte_len_back t)
type_back (D.u_short_len t) = T.UShort (u_short_len_back t)
type_back (D.long_len t) = T.Long (long_len_back t)
type_back D.daten = T.Daten
type_back D.xml = T.Xml
type_back D.udt = T.Udt
type_back D.ss_variant = T.SsVariant
