-- `finder::part` meets its contract: the part lies in the slice's own block, and is cut where the bytes end.
use mathlib.Core.Path.{refl}
use native.Mathlib.Omega.{arith}
use Rattle.finder.proofs.Clips.{clipped}
use Rattle.finder.proofs.part.Goals as goal

pub returns : goal.returns
returns c =
    let a = c.args in
    record {
      bytes = clipped a.bytes.now a.at a.size c.least-start.result c.least.result c.least-start.ensures c.least.ensures;
      block = refl;
      offset = omega (arith, c.least-start.ensures);
    }
