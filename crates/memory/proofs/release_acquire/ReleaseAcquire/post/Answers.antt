use Rattle.std.proofs.Common.{◌<◌, [], length, get_or, ap, rules}
use borrow.Author.Rules.{Below-row}
use Rattle.memory.specs.Rules.{Store}
use Rattle.memory.proofs.MessageTables.{post_store}
use Rattle.memory.proofs.release_acquire.ReleaseAcquire.post.Goals as goal

pub returns : goal.returns
returns c =
    let row : c.args.access.process < length c.args.self.now.views = search rules in
    let line : c.args.access.variable < length c.args.self.now.messages = search rules in
    let column : c.args.at < length (get_or c.args.self.now.messages c.args.access.variable []) = search (rules, Below-row) in
    rw (c.from.ensures, c.from-2.ensures, c.from-3.ensures)
    (ap (λ (s : Store). record { shape = c.args.self.now.shape; store = s })
    (post_store c.args.self.now.shape.ceiling c.args.self.now.views c.args.self.now.messages
    c.args.access.process c.args.access.variable c.args.at c.args.message row line column (search rules)))
