use Rattle.std.proofs.Common.{◌≡◌, ap, sym}
use Rattle.mm_io.proofs.FrontLaws.{copied_front, nothing_behind}
use Rattle.mm_io.proofs.source.MemSourceSource.read.Goals as goal

pub returns-clause-bytes : goal.returns-clause-bytes
returns-clause-bytes c =
    let bytes = c.self.inside.bytes.items in
    let place = c.self.inside.place in
    let buf = c.copy_from-count.new.buf in
    let n = c.copy_from-count.result in
    let shown : c.deref-2.result.now ≡ bytes = c.deref-2.ensures.value in (
      copied_front c.args.self.now.left bytes buf place n (ap (λ f. f.left) (sym c.self.view_is)) (rw shown at c.copy_from-count.ensures.bytes),
      nothing_behind bytes buf place n (rw shown at c.copy_from-count.ensures.most),
    )
