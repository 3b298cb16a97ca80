-- The runs as they are computed are the list of the runs within bounds. Over any system.
use Rattle.std.proofs.Common.{◌≡◌, ℕ, ◌*◌, ◌≤◌, List, []}
use Rattle.ceiling.specs.declared.moves.Move.{Move}
use Rattle.runs.specs.Runs.{System, runs}
use Rattle.runs.specs.Listed.{Lists, TheList, TotalOrder}
use Rattle.runs.proofs.Uniques.{before_never, before_through, before_either, stands_once, same_list}
use Rattle.runs.proofs.Members.{exactly, rising}
use Rattle.runs.proofs.Counts.{length_runs}

pub total_order : TotalOrder
total_order = record { never = before_never; through = before_through; either = before_either }

pub is_list : {W : Type 0} (S : System W) (w : W) (n k : ℕ) → Lists S w n k (runs S n k w [])
is_list S w n k = record {
  exactly = exactly S w n k;
  once = stands_once (runs S n k w []) (rising S n k w []);
  ordered = rising S n k w [];
}

-- two lists of the runs within bounds are one
pub one_list : {W : Type 0} (S : System W) (w : W) (n k : ℕ) (L M : List (List Move)) → Lists S w n k L → Lists S w n k M → L ≡ M
one_list S w n k L M g h = same_list L M g.ordered h.ordered (λ r i. (h.exactly r).1 ((g.exactly r).0 i)) (λ r i. (g.exactly r).1 ((h.exactly r).0 i))

pub the_list : {W : Type 0} (S : System W) (widest : ℕ) → ((w : W) (p : ℕ) → S.offer w p ≤ widest) → (w : W) (n k : ℕ) → TheList S (S.processes * widest) w n k
the_list S widest narrow w n k = record {
  lists = is_list S w n k;
  only = λ L h. one_list S w n k L (runs S n k w []) h (is_list S w n k);
  few = length_runs S widest narrow n k w [];
}
