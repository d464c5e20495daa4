use Rattle.std.proofs.Common.{◌≡◌, ℕ, List, Option, take}
use Rattle.cpa_clock.specs.Rivals.{ClockedRival, streams_on}
use Rattle.cpa_clock.specs.Gathered.{HasLists, HasStreams}
use Rattle.cpa_clock.proofs.AddedLaws.{with_streams}
use Rattle.cpa_clock.proofs.gathered.Gathered.add_streams.Given as goal

-- the streams before place k are added
abbrev pub invariant-loop-k : goal.invariant-loop-k
invariant-loop-k l =
    record {
      long : HasLists l.self.others;
      added : l.self.added ≡ l.initial.self.added;
      free : l.self.free ≡ l.initial.self.free;
      more : (own : Option ℕ) (rivals : List ClockedRival) → HasStreams own l.cycles (λ c. streams_on c rivals) l.initial.self → HasStreams own l.cycles (with_streams rivals l.anchors l.worst (take l.k l.model)) l.self;
    }
