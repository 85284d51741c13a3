-- `column_put::inner::put_marked` meets its contract: the marker, and the names behind it. Assumes nothing.
use native.Mathlib.Omega.{arith}
use mathlib.Core.List.{[], ◌∷◌, ◌++◌}
use Rattle.format.specs.Descriptor.{name_bytes}
use Rattle.lists.proofs.Front.{sets_more}
use Rattle.column_type.specs.Told.{name_told}
use Rattle.column_type.proofs.WriteLaws.{fitting, length_names}
use Rattle.column_put.proofs.inner.put_marked.Goals as goal

pub put_byte-requires : goal.put_byte-requires
put_byte-requires c =
    let a = c.args in
    let f = fitting a.names.now c.in-Some.three.database c.in-Some.three.owner c.in-Some.three.collection (rw c.in-Some.is at c.requires.0) in
    let l = length_names a.names.now c.in-Some.three.database c.in-Some.three.owner c.in-Some.three.collection f.database f.owner f.collection in
    let q = rw c.in-Some.is at c.requires.1 in
    omega (arith, l, q)

pub put_names-requires : goal.put_names-requires
put_names-requires c =
    let a = c.args in
    let f = fitting a.names.now c.in-Some.three.database c.in-Some.three.owner c.in-Some.three.collection (rw c.in-Some.is at c.requires.0) in
    let l = length_names a.names.now c.in-Some.three.database c.in-Some.three.owner c.in-Some.three.collection f.database f.owner f.collection in
    let q = rw c.in-Some.is at c.requires.1 in
    (f.database, f.owner, f.collection, omega (arith, l, q))

pub returns-in-Some : goal.returns-in-Some
returns-in-Some c =
    let a = c.args in
    let s = a.names.now in
    rw (c.in-Some.is, c.put_names.ensures, c.put_byte.ensures)
    (sets_more a.out.now a.at (1 ∷ [])
    (name_bytes 1 (name_told s c.in-Some.three.database) ++ (name_bytes 1 (name_told s c.in-Some.three.owner) ++ name_bytes 2 (name_told s
    c.in-Some.three.collection))))

pub put_byte-requires-2 : goal.put_byte-requires-2
put_byte-requires-2 c =
    let q = rw c.in_default.is at c.requires.1 in
    omega (arith, q)

pub returns : goal.returns
returns c = rw c.in_default.is c.put_byte-2.ensures
