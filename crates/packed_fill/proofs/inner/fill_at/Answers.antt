-- `packed_fill::inner::fill_at` meets its contract: bytes that the numbers tell are the value's, and stand at the place. Assumes nothing.
use Rattle.std.specs.Prelude.{Some}
use mathlib.Core.Path.{◌≡◌, sym, ap, ◌∙◌}
use mathlib.Core.List.{List}
use Prim.Native.Nat.{ℕ, ◌+◌, ◌*◌, ◌^◌, ◌<◌, ◌≤◌}
use native.Mathlib.Omega.{arith}
use lib.ListN.{length, get_or}
use lib.Seq.{sets}
use Rattle.lists.specs.Put.{put_at}
use Rattle.lists.proofs.Front.{sets_put}
use Rattle.plain_write.specs.Bytes.{plain_bytes, Takes, written_at}
use Rattle.plain_write.proofs.Plainly.{kind_at, first_at, second_at, taken_at}
use Rattle.packed_fill.proofs.inner.fill_at.Goals.{In-Some}
use Rattle.packed_fill.proofs.inner.fill_at.Goals as goal

-- a run of stores is the bytes at their place
stored : (out after bs : List ℕ) (at : ℕ) → at + length bs ≤ length out → after ≡ sets out at bs → after ≡ put_at out at bs
stored out after bs at r e = e ∙ sets_put out at bs r

-- the value, by its numbers
abbrev bytes : (c : In-Some) → List ℕ
bytes c =
    let a = c.args in
    let t = a.table.now in
    let vs = a.values.now in
    let b = a.buffer.now in
    plain_bytes (Some c.in-Some.p) (kind_at t vs b a.i) (first_at t vs b a.i) (second_at t vs b a.i)

taken : (c : In-Some) →
    let a = c.args in
    Takes (written_at a.table.now a.values.now a.buffer.now a.i) (bytes c) c.in-Some.n
taken c =
    let a = c.args in
    let small : get_or a.values.now (3 * a.i + 1) 0 < 256 ^ 8 = omega (arith, c.type_inv.values (3 * a.i + 1)) in
    taken_at a.table.now a.values.now a.buffer.now a.i (Some c.in-Some.p) c.in-Some.n
    c.in-Some.ensures.0 (rw c.at-v.ensures.kind at c.in-Some.ensures.2) small

room : (c : In-Some) →
    let a = c.args in
    a.at + length (bytes c) ≤ length a.out.now
room c = rw (taken c).written at c.requires.2

pub put_in-requires : goal.put_in-requires
put_in-requires c =
    let three = c.at-v.ensures in
    rw (three.kind, three.first, three.second) (room (goal.at.put_in-requires c).In-Some)

pub overflow_add-result : goal.overflow_add-result
overflow_add-result c = record {
  fits = omega (
    arith,
    room (goal.at.overflow_add-result c).In-Some,
    (taken (goal.at.overflow_add-result c).In-Some).counted,
  );
}

pub returns-in-Some : goal.returns-in-Some
returns-in-Some c =
    let a = c.args in
    let three = c.at-v.ensures in
    let put = rw (three.kind, three.first, three.second) at c.put_in.ensures in
    let next = ap (λ (k : ℕ). a.at + k) (sym (taken (goal.at.returns-in-Some c).In-Some).counted) in
    rw (taken (goal.at.returns-in-Some c).In-Some).written (
      next,
      stored a.out.now _ (bytes (goal.at.returns-in-Some c).In-Some) a.at
          (room (goal.at.returns-in-Some c).In-Some) put,
    )
