use Rattle.rows.proofs.Laws.{join_copied}
use Rattle.rows.proofs.inner.joined.Goals as goal

pub returns : goal.returns
returns g c =
    let a = c.args in
    join_copied g.row.N a.filler a.a.now a.b.now _ _ c.requires c.copy_from_slice.ensures.after c.copy_from_slice-2.ensures.after
