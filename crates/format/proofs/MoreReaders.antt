-- An answer other than refusal 1 does not change when more bytes follow: of every reader of the format. Each is put together from readers of which it holds.
--   stream_header, stream_column, steady_open, stream_value, stream_row, stream_capture; the chunk walk's is `steady_walk` of MoreChunks, the
--   normal form's `stream_normal` of StreamNormal.
-- At a place of the input, and with a room, it holds by `steady_at` and `steady_fitted` of More: steady_value_at, steady_row_at, steady_join.
-- Assumes nothing.
use Rattle.std.specs.Prelude.{None, Option, Some}
use mathlib.Core.Path.{◌≡◌, refl, ap, ◌∙◌}
use mathlib.Core.List.{List, [], ◌∷◌, ◌++◌}
use mathlib.Core.Bool.{Bool, true, false, not}
use Prim.Native.Nat.{ℕ, zero, suc, ◌+◌, ◌*◌, ◌≤◌, ◌<◌}
use native.Mathlib.Omega.{arith}
use lib.ListN.{length, get_or, take, drop, length-append, length-drop, get_or-append}
use lib.Seq.{take-append-le, drop-append-le}
use lib.Dec.{ltb, eqb}
use borrow.Author.Tests.{le-ltb, ltb-false}
use Rattle.format.specs.Answer.{missing, unknown, rule, long, sequence, Answer, gives, refuses, took, then_read, map_read, read_at, fitted_read, Read}
use Rattle.format.specs.Number.{high_nat, read_byte, read_low, read_bytes}
use Rattle.format.specs.Header.{packet_types, packet_statuses, listed, read_header}
use Rattle.format.specs.Descriptor.{TypeId, fixed_len, byte_len, u_short_len, long_len, daten, xml, udt, ss_variant, has_digits, has_collation, Column, plain}
use Rattle.format.specs.Descriptor.{daten_length, with_sort, read_sort, read_collation, with_scale, read_scale, read_digits, read_units, read_name, with_names}
use Rattle.format.specs.Descriptor.{read_third, read_second, schema_marker, read_schema, read_fields, read_typed, type_of, read_type, read_column, keeps_rule}
use Rattle.format.specs.Scalar.{Kind, width, scalar_of, read_scalar}
use Rattle.format.specs.Plp.{plp_mark, read_plp_head, is_odd, walk_behind, open_walk, read_plp, plp_copied, join_plp}
use Rattle.format.specs.Value.{Value, ContentKind, Family, fixed_width, length_byte, content, family_of, is_text, content_value}
use Rattle.format.specs.Value.{of_width, read_width, read_length_byte, short_null, read_short, read_content, read_family, read_value, copied_out}
use Rattle.format.specs.Row.{max_columns, cons_read, read_values, read_row, copied_out_row, read_columns, captured, read_captured, read_counted, read_capture}
use Rattle.format.proofs.Place.{Stays, past}
use Rattle.format.proofs.More.{Steady, Streams, steady_at, steady_fitted, stream_byte, stream_low, stream_bytes, stream_took, stream_stops}
use Rattle.format.proofs.More.{stream_map, stream_pick, stream_stop, stream_then}
use Rattle.format.proofs.MoreChunks.{steady_plp_head, stream_plp}

-- ---- the header: eight bytes that are there

module _ (s more : List ℕ) (h : 8 ≤ length s) where
  byte_there : (i : ℕ) → i < 8 → get_or (s ++ more) i 0 ≡ get_or s i 0
  byte_there i l = get_or-append s more 0 i (omega arith)

  two_there : (i : ℕ) → i + 2 ≤ 8 → high_nat (take 2 (drop i (s ++ more))) ≡ high_nat (take 2 (drop i s))
  two_there i l =
      let d : drop i (s ++ more) ≡ drop i s ++ more = drop-append-le i s more (omega arith) in
      ap high_nat (ap (take 2) d ∙ take-append-le 2 (drop i s) more (omega (arith, length-drop i s)))

pub steady_header : Steady read_header
unfolding read_header
steady_header s more h = go (ltb (length s) 8) refl
  where
    go : (b : Bool) → ltb (length s) 8 ≡ b → read_header (s ++ more) ≡ read_header s
    go true t = absurd (h (rw t))
    go false t =
        let i : 8 ≤ length s = ltb-false (length s) 8 t in
        let l : ltb (length (s ++ more)) 8 ≡ false = le-ltb (length (s ++ more)) 8 (omega (arith, length-append s more)) in
        let b = byte_there s more i in
        let n = two_there s more i in
        rw (t, l, b 0 (omega arith), b 1 (omega arith), b 6 (omega arith), b 7 (omega arith), n 2 (omega arith), n 4 (omega arith))

stays_header : Stays read_header
unfolding read_header
stays_header s v n h =
    let p = past (ltb (length s) 8) missing _ v n h in
    let q = past (not (listed packet_types (get_or s 0 0))) unknown _ v n p.1 in
    let r = past (not (listed packet_statuses (get_or s 1 0))) unknown _ v n q.1 in
    let e : 8 ≡ n = cc r.1 in
    omega (arith, ltb-false (length s) 8 p.0)

pub stream_header : Streams read_header
stream_header = record { stays = stays_header; steady = steady_header }

-- ---- a descriptor

stream_digits : (t : TypeId) (n : ℕ) → Streams (read_digits t n)
stream_digits t n =
    stream_pick (has_digits t) (then_read read_byte (read_scale t n)) (λ s. took (plain t n) 0)
    (stream_then read_byte (read_scale t n) stream_byte (λ precision. stream_map (with_scale t n precision) read_byte stream_byte))
    (stream_took (plain t n))

stream_collation : (t : TypeId) (n : ℕ) → Streams (read_collation t n)
stream_collation t n =
    stream_pick (has_collation t) (then_read (read_low 4) (read_sort t n)) (λ s. took (plain t n) 0)
    (stream_then (read_low 4) (read_sort t n) (stream_low 4) (λ info. stream_map (with_sort t n info) read_byte stream_byte))
    (stream_took (plain t n))

stream_name : (w : ℕ) → Streams (read_name w)
stream_name w = stream_then (read_low w) read_units (stream_low w) (λ units. stream_bytes (2 * units))

stream_schema : (marker : ℕ) → Streams (read_schema marker)
stream_schema marker =
    stream_pick (eqb marker schema_marker) (then_read (read_name 1) read_second) (λ s. took (plain xml 0) 0)
    (stream_then (read_name 1) read_second (stream_name 1) (λ a.
    stream_then (read_name 1) (read_third a) (stream_name 1) (λ b. stream_map (with_names a b) (read_name 2) (stream_name 2))))
    (stream_took (plain xml 0))

stream_fields : (t : TypeId) → Streams (read_fields t)
stream_fields (fixed_len t) = stream_took (plain (fixed_len t) 0)
stream_fields (byte_len t) = stream_then read_byte (read_digits (byte_len t)) stream_byte (stream_digits (byte_len t))
stream_fields (u_short_len t) = stream_then (read_low 2) (read_collation (u_short_len t)) (stream_low 2) (stream_collation (u_short_len t))
stream_fields (long_len t) = stream_then (read_low 4) (read_collation (long_len t)) (stream_low 4) (stream_collation (long_len t))
stream_fields daten = stream_took (plain daten daten_length)
stream_fields xml = stream_then read_byte read_schema stream_byte stream_schema
stream_fields udt = stream_stops _
stream_fields ss_variant = stream_stops _

stream_typed : (t : Answer TypeId) → Streams (read_typed t)
stream_typed (gives t) = stream_fields t
stream_typed (refuses e) = stream_stops e

pub stream_column : Streams read_column
unfolding read_column
stream_column = stream_then read_byte read_type stream_byte (λ b. stream_typed (type_of b))

-- ---- a walk opened at a place

pub steady_open : (text : Bool) (at : ℕ) → Steady (λ (s : List ℕ). open_walk text s at)
unfolding open_walk
steady_open text at s more h = ap (walk_behind text) (steady_at read_plp_head at steady_plp_head s more (λ e. h (ap (walk_behind text) e)))

-- ---- a value

stream_scalar : (k : Kind) → Streams (read_scalar k)
unfolding read_scalar
stream_scalar k = stream_map (scalar_of k) (read_bytes (width k)) (stream_bytes (width k))

stream_width : (declared n : ℕ) (k : Option Kind) → Streams (read_width declared n k)
stream_width declared n None = stream_stops sequence
stream_width declared n (Some k) =
    stream_stop (ltb declared n) long (λ s. map_read Value.scalar (read_scalar k s)) (stream_map Value.scalar (read_scalar k) (stream_scalar k))

stream_length_byte : (ks : List Kind) (declared n : ℕ) → Streams (read_length_byte ks declared n)
stream_length_byte ks declared n =
    stream_pick (eqb n 0) (λ s. took Value.null 0) (read_width declared n (of_width ks n)) (stream_took Value.null) (stream_width declared n (of_width ks n))

stream_short : (k : ContentKind) (declared n : ℕ) → Streams (read_short k declared n)
stream_short k declared n =
    stream_pick (eqb n short_null) (λ s. took Value.null 0) _ (stream_took Value.null)
    (stream_stop (ltb declared n) long _
    (stream_stop (is_odd (is_text k) n) sequence _
    (stream_map (λ c. content_value k (Some c)) (read_bytes n) (stream_bytes n))))

stream_content : (k : ContentKind) (declared : ℕ) → Streams (read_content k declared)
stream_content k declared =
    stream_pick (eqb declared plp_mark) _ _
    (stream_map (content_value k) (read_plp (is_text k)) (stream_plp (is_text k)))
    (stream_then (read_low 2) (read_short k declared) (stream_low 2) (stream_short k declared))

stream_family : (declared : ℕ) (f : Option Family) → Streams (read_family declared f)
stream_family declared None = stream_stops _
stream_family declared (Some (fixed_width k)) = stream_map Value.scalar (read_scalar k) (stream_scalar k)
stream_family declared (Some (length_byte ks)) = stream_then read_byte (read_length_byte ks declared) stream_byte (stream_length_byte ks declared)
stream_family declared (Some (content k)) = stream_content k declared

pub stream_value : (c : Column) → Streams (read_value c)
unfolding read_value
stream_value c = stream_stop (not (keeps_rule c)) rule _ (stream_family c.length (family_of c.type))

-- ---- a row, a capture

stream_cons : {A : Type 0} (rest : List ℕ → Read (List A)) (v : A) → Streams rest → Streams (cons_read rest v)
stream_cons rest v p = stream_map (◌∷◌ v) rest p

pub stream_values : (cs : List Column) → Streams (read_values cs)
unfolding read_values
stream_values [] = stream_took []
stream_values (c ∷ cs) = stream_then (read_value c) (cons_read (read_values cs)) (stream_value c) (λ v. stream_cons (read_values cs) v (stream_values cs))

pub stream_row : (cs : List Column) → Streams (read_row cs)
unfolding read_row
stream_row cs = stream_stop (ltb max_columns (length cs)) rule (read_values cs) (stream_values cs)

pub stream_columns : (n : ℕ) → Streams (read_columns n)
unfolding read_columns
stream_columns zero = stream_took []
stream_columns (suc n) = stream_then read_column (cons_read (read_columns n)) stream_column (λ c. stream_cons (read_columns n) c (stream_columns n))

pub stream_capture : Streams read_capture
unfolding read_capture
stream_capture =
    stream_then (read_low 2) read_counted (stream_low 2) (λ n.
    stream_stop (ltb max_columns n) rule _
    (stream_then (read_columns n) read_captured (stream_columns n) (λ cs. stream_map (captured cs) (read_row cs) (stream_row cs))))

-- ---- as callers meet them: at a place, and with a room

pub steady_value_at : (c : Column) (at size : ℕ) → Steady (λ (s : List ℕ). fitted_read (copied_out c) (read_at (read_value c) s at) size)
steady_value_at c at size = steady_fitted (copied_out c) (λ s. read_at (read_value c) s at) size (steady_at (read_value c) at (stream_value c).steady)

pub steady_row_at : (cs : List Column) (at size : ℕ) → Steady (λ (s : List ℕ). fitted_read (copied_out_row cs) (read_at (read_row cs) s at) size)
steady_row_at cs at size = steady_fitted (copied_out_row cs) (λ s. read_at (read_row cs) s at) size (steady_at (read_row cs) at (stream_row cs).steady)

pub steady_join : (text : Bool) (at size : ℕ) → Steady (λ (s : List ℕ). join_plp text s at size)
unfolding join_plp
steady_join text at size = steady_fitted plp_copied (λ s. read_at (read_plp text) s at) size (steady_at (read_plp text) at (stream_plp text).steady)
