-- What each public call of this crate promises leaves no choice. Assumes nothing.
use mathlib.Core.Path.{refl, sym, ◌∙◌}
use Rattle.lists.specs.One.{One}
use Rattle.matrix.proofs.Matrix.new.Kinds as new-kinds
use Rattle.matrix.proofs.Matrix.new.Reads as new-reads
use Rattle.matrix.proofs.Matrix.add.Kinds as add-kinds
use Rattle.matrix.proofs.Matrix.add.Reads as add_reads
use Rattle.matrix.proofs.Matrix.merge.Kinds as merge-kinds
use Rattle.matrix.proofs.Matrix.merge.Reads as merge-reads
use Rattle.matrix.proofs.Matrix.assume.Kinds as assume-kinds
use Rattle.matrix.proofs.Matrix.assume.Reads as assume-reads
use Rattle.matrix.proofs.Matrix.add_enable.Kinds as add-enable-kinds
use Rattle.matrix.proofs.Matrix.add_enable.Reads as add-enable-reads
use Rattle.matrix.proofs.Matrix.normalize.Kinds as normalize-kinds
use Rattle.matrix.proofs.Matrix.normalize.Reads as normalize-reads
use Rattle.matrix.proofs.Matrix.outputs.Kinds as outputs-kinds
use Rattle.matrix.proofs.Matrix.outputs.Reads as outputs-reads

pub new-one : One 1 new-kinds.ps new-kinds.r new-reads.Post
new-one κs a x y ws vs e f = (e ∙ sym f, refl)

pub add-one : One 2 add-kinds.ps add-kinds.r add_reads.Post
add-one κs a x y ws vs e f = (e ∙ sym f, refl)

pub merge-one : One 0 merge-kinds.ps merge-kinds.r merge-reads.Post
merge-one κs a x y ws vs e f = (e ∙ sym f, refl)

pub assume-one : One 0 assume-kinds.ps assume-kinds.r assume-reads.Post
assume-one κs a x y ws vs e f = (e ∙ sym f, refl)

pub add_enable-one : One 0 add-enable-kinds.ps add-enable-kinds.r add-enable-reads.Post
add_enable-one κs a x y ws vs e f = (e ∙ sym f, refl)

pub normalize-one : One 0 normalize-kinds.ps normalize-kinds.r normalize-reads.Post
normalize-one κs a x y ws vs e f = (e ∙ sym f, refl)

pub outputs-one : One 0 outputs-kinds.ps outputs-kinds.r outputs-reads.Post
outputs-one κs a x y ws vs e f = (e ∙ sym f, refl)
