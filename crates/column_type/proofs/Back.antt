-- Telling undoes telling the other way: the type that a declared one was made of is told of it.
-- Assumes nothing.
use mathlib.Core.Path.{◌≡◌, refl, ap}
use Rattle.format.specs.Descriptor as D
use Rattle.column_type.specs.Back.{fixed_back, byte_len_back, u_short_len_back, long_len_back, type_back}
use Rattle.column_type.specs.Told.{fixed_told, byte_len_told, u_short_len_told, long_len_told, type_told}

fixed_told_lem : (t : D.FixedLen) → fixed_told (fixed_back t) ≡ t
fixed_told_lem D.FixedLen.null = refl
fixed_told_lem D.FixedLen.int1 = refl
fixed_told_lem D.FixedLen.bit = refl
fixed_told_lem D.FixedLen.int2 = refl
fixed_told_lem D.FixedLen.int4 = refl
fixed_told_lem D.FixedLen.datetime4 = refl
fixed_told_lem D.FixedLen.float4 = refl
fixed_told_lem D.FixedLen.money = refl
fixed_told_lem D.FixedLen.datetime = refl
fixed_told_lem D.FixedLen.float8 = refl
fixed_told_lem D.FixedLen.money4 = refl
fixed_told_lem D.FixedLen.int8 = refl

byte_len_told_lem : (t : D.ByteLen) → byte_len_told (byte_len_back t) ≡ t
byte_len_told_lem D.ByteLen.guid = refl
byte_len_told_lem D.ByteLen.intn = refl
byte_len_told_lem D.ByteLen.bitn = refl
byte_len_told_lem D.ByteLen.decimaln = refl
byte_len_told_lem D.ByteLen.numericn = refl
byte_len_told_lem D.ByteLen.floatn = refl
byte_len_told_lem D.ByteLen.moneyn = refl
byte_len_told_lem D.ByteLen.datetimen = refl
byte_len_told_lem D.ByteLen.timen = refl
byte_len_told_lem D.ByteLen.datetime2 = refl
byte_len_told_lem D.ByteLen.datetime_offsetn = refl

u_short_len_told_lem : (t : D.UShortLen) → u_short_len_told (u_short_len_back t) ≡ t
u_short_len_told_lem D.UShortLen.big_var_bin = refl
u_short_len_told_lem D.UShortLen.big_var_char = refl
u_short_len_told_lem D.UShortLen.big_binary = refl
u_short_len_told_lem D.UShortLen.big_char = refl
u_short_len_told_lem D.UShortLen.n_varchar = refl
u_short_len_told_lem D.UShortLen.n_char = refl

long_len_told_lem : (t : D.LongLen) → long_len_told (long_len_back t) ≡ t
long_len_told_lem D.LongLen.image = refl
long_len_told_lem D.LongLen.text = refl
long_len_told_lem D.LongLen.n_text = refl

pub type_told_lem : (t : D.TypeId) → type_told (type_back t) ≡ t
type_told_lem (D.fixed_len t) = ap D.fixed_len (fixed_told_lem t)
type_told_lem (D.byte_len t) = ap D.byte_len (byte_len_told_lem t)
type_told_lem (D.u_short_len t) = ap D.u_short_len (u_short_len_told_lem t)
type_told_lem (D.long_len t) = ap D.long_len (long_len_told_lem t)
type_told_lem D.daten = refl
type_told_lem D.xml = refl
type_told_lem D.udt = refl
type_told_lem D.ss_variant = refl
