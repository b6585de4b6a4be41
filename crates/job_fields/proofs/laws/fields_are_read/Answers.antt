use Rattle.job_fields.proofs.ReadLemmas.{platform_read, arches_read, target_read, tag_read, sku_read, defines_read, pcds_read, flash_read, images_read, report_read}
use Rattle.job_fields.proofs.laws.fields_are_read.Goals as goal

pub returns-clause-platform : goal.returns-clause-platform
returns-clause-platform c = platform_read

pub returns-clause-arches : goal.returns-clause-arches
returns-clause-arches c = arches_read

pub returns-clause-target : goal.returns-clause-target
returns-clause-target c = target_read

pub returns-clause-tag : goal.returns-clause-tag
returns-clause-tag c = tag_read

pub returns-clause-sku : goal.returns-clause-sku
returns-clause-sku c = sku_read

pub returns-clause-defines : goal.returns-clause-defines
returns-clause-defines c = defines_read

pub returns-clause-pcds : goal.returns-clause-pcds
returns-clause-pcds c = pcds_read

pub returns-clause-flash : goal.returns-clause-flash
returns-clause-flash c = flash_read

pub returns-clause-images : goal.returns-clause-images
returns-clause-images c = images_read

pub returns-clause-report : goal.returns-clause-report
returns-clause-report c = report_read
